-- From what the code found to the effect of an UPDATE.
use Rattle.std.proofs.Common.{inl, inr, ◌≡◌, ℕ, ◌&&◌, ◌||◌, Bool, true, false, cond, not, List, [], ◌∷◌, Option, Some, None, refl, sym, ap, ◌∙◌, subst}
use Rattle.std.specs.Prelude.{option_map}
use Rattle.std.specs.List.{IsDistinct, AllByRecursion}
use Rattle.std.specs.List.Sorted.{IsStrictlySortedBy}
use Rattle.std.specs.declared.cmp.Ordering.TheVariants.{Less}
use Rattle.std.specs.Ordering.{is_eq}
use Rattle.rs_octets.specs.declared.notification.Notification.{Notification}
use Rattle.rs_octets.specs.declared.notification.Notification.TheVariants.{InvalidNetworkField, MalformedAttributeList, UnrecognizedWellKnownAttribute}
use Rattle.rs_octets.specs.Names.{code_of, sub_of, codes_named}
use Rattle.rs_octets.specs.Prefixes.{Prefix, prefix_order}
use Rattle.rs_attrs.specs.declared.mode.Mode.{Mode}
use Rattle.rs_attrs.specs.declared.faults.Faults.{Faults}
use Rattle.rs_attrs.specs.Meaning.{Attribute, Reads}
use Rattle.rs_attrs.specs.Effects.{Fields, fields_of, Effect, Change, HasEffect, IsEffect, IsChange, reset_named, reset_of, is_faulty, is_empty, has_prefix, same_prefix, prefixes_in, treat_as_withdraw}
use Rattle.rs_update.specs.declared.outcome.Outcome.{Outcome}
use Rattle.rs_update.specs.declared.outcome.Outcome.TheVariants as outcomes
use Rattle.rs_update.specs.Outcomes.{effect_seen, IsWithdrawn, IsAnnounced}
use Rattle.rs_update.proofs.BodyFields.{Fit, body_of_fields, no_body}
use Rattle.rs_update.proofs.PrefixSets.{same_ties}

-- the lengths exceed the body
pub no_fields : (body : List ℕ) (mode : Mode) → fields_of body ≡ None → HasEffect body mode (reset_named MalformedAttributeList)
no_fields body mode e = inl (no_body body e, refl)

-- what the fields are read as has this effect
pub by_reading : (body : List ℕ) (mode : Mode) (effect : Effect) (fields : Fields) (m : List Attribute) (faults : Faults) → Fit body → fields_of body ≡ Some fields → Reads fields.attributes mode m faults → IsEffect fields m faults effect → HasEffect body mode effect
by_reading body mode effect fields m faults fit e reads is = inr (fields, body_of_fields body fields fit e, m, faults, reads, is)

-- ---- resets

-- the resets behind those by a faulty prefix
abbrev behind : Fields → Faults → Option Notification
behind fields faults =
    cond faults.mp_twice (Some MalformedAttributeList)
    (cond (faults.withdraw && not (is_empty fields.attributes) && is_empty fields.nlri) (Some MalformedAttributeList)
    (cond faults.unknown (Some UnrecognizedWellKnownAttribute) None))

pub withdrawn_faulty : (fields : Fields) (faults : Faults) → is_faulty fields.withdrawn ≡ true → reset_of fields faults ≡ Some InvalidNetworkField
withdrawn_faulty fields faults e = ap (λ b. cond (b || is_faulty fields.nlri) (Some InvalidNetworkField) (behind fields faults)) e

pub nlri_faulty : (fields : Fields) (faults : Faults) → is_faulty fields.withdrawn ≡ false → is_faulty fields.nlri ≡ true → reset_of fields faults ≡ Some InvalidNetworkField
nlri_faulty fields faults e f = λ i. cond (e i || f i) (Some InvalidNetworkField) (behind fields faults)

-- the first reset that holds is the effect
pub is_reset : (fields : Fields) (m : List Attribute) (faults : Faults) (name : Notification) → reset_of fields faults ≡ Some name → IsEffect fields m faults (reset_named name)
is_reset fields m faults name e = ap (option_map codes_named) e

-- the outcome that a name stands for has the effect that its codes have
pub by_reset : (body : List ℕ) (mode : Mode) (name : Notification) (outcome : Outcome) → outcome ≡ outcomes.Reset (code_of name) (sub_of name)
    → HasEffect body mode (reset_named name) → HasEffect body mode (effect_seen outcome)
by_reset body mode name outcome e is = subst (λ (o : Outcome). HasEffect body mode (effect_seen o)) (sym e) is

-- ---- changes

distinct_from : (p : Prefix) (ps : List Prefix) → AllByRecursion (λ q. prefix_order p q ≡ Less) ps → AllByRecursion (λ q. same_prefix p q ≡ false) ps
distinct_from p [] above = tt
distinct_from p (q ∷ ps) above = (same_ties p q ∙ ap is_eq above.0, distinct_from p ps above.1)

pub rising_distinct : (ps : List Prefix) → IsStrictlySortedBy prefix_order ps → IsDistinct same_prefix ps
unfolding IsStrictlySortedBy IsDistinct
rising_distinct [] sorted = tt
rising_distinct (p ∷ ps) sorted = (distinct_from p ps sorted.0, rising_distinct ps sorted.1)

nothing_distinct : IsDistinct same_prefix []
unfolding IsDistinct
nothing_distinct = tt

and_true : (b : Bool) → (b && true) ≡ b
and_true true = refl
and_true false = refl

pub is_withdrawn : (fields : Fields) (m : List Attribute) (faults : Faults) (change : Change) → treat_as_withdraw fields m faults ≡ true
    → IsWithdrawn (prefixes_in fields.withdrawn) (prefixes_in fields.nlri) change → IsChange fields m faults change
is_withdrawn fields m faults change treats w = record {
  announced_once = subst (λ (ps : List Prefix). IsDistinct same_prefix ps) (sym w.announced) nothing_distinct;
  withdrawn_once = rising_distinct change.withdrawn w.rising;
  announced = λ p. ap (has_prefix p) w.announced ∙ sym (ap (λ b. has_prefix p (cond b [] (prefixes_in fields.nlri))) treats);
  withdrawn = λ p. w.members p ∙ sym (and_true (has_prefix p (prefixes_in fields.withdrawn) || has_prefix p (prefixes_in fields.nlri)))
      ∙ ap (λ ps. (has_prefix p (prefixes_in fields.withdrawn) || has_prefix p (prefixes_in fields.nlri)) && not (has_prefix p ps)) (sym w.announced);
  attributes = w.attributes ∙ ap (λ (ps : List Prefix). cond (is_empty ps) None (Some m)) (sym w.announced);
}

less_nlri : (w n : Bool) → (w && not n) ≡ ((w || n) && not n)
less_nlri true true = refl
less_nlri true false = refl
less_nlri false true = refl
less_nlri false false = refl

pub is_announced : (fields : Fields) (m : List Attribute) (faults : Faults) (change : Change) → treat_as_withdraw fields m faults ≡ false
    → IsAnnounced (prefixes_in fields.withdrawn) (prefixes_in fields.nlri) m change → IsChange fields m faults change
is_announced fields m faults change treats a = record {
  announced_once = rising_distinct change.announced a.announced_rising;
  withdrawn_once = rising_distinct change.withdrawn a.rising;
  announced = λ p. a.announced p ∙ sym (ap (λ b. has_prefix p (cond b [] (prefixes_in fields.nlri))) treats);
  withdrawn = λ p. a.members p ∙ less_nlri (has_prefix p (prefixes_in fields.withdrawn)) (has_prefix p (prefixes_in fields.nlri))
      ∙ ap (λ b. (has_prefix p (prefixes_in fields.withdrawn) || has_prefix p (prefixes_in fields.nlri)) && not b) (sym (a.announced p));
  attributes = a.attributes;
}

-- the same, where lists and routes are known by equations
pub same_withdrawn : (ws vs ns os : List Prefix) (new old : Change) → ws ≡ vs → ns ≡ os → new ≡ old → IsWithdrawn ws ns old → IsWithdrawn vs os new
same_withdrawn ws vs ns os new old e f g is = subst (λ (x : Change). IsWithdrawn vs os x) (sym g) (subst (λ (x : List Prefix). IsWithdrawn vs x old) f (subst (λ (x : List Prefix). IsWithdrawn x ns old) e is))

pub same_announced : (ws vs ns os : List Prefix) (m : List Attribute) (new old : Change) → ws ≡ vs → ns ≡ os → new ≡ old → IsAnnounced ws ns m old → IsAnnounced vs os m new
same_announced ws vs ns os m new old e f g is = subst (λ (x : Change). IsAnnounced vs os m x) (sym g) (subst (λ (x : List Prefix). IsAnnounced vs x m old) f (subst (λ (x : List Prefix). IsAnnounced x ns m old) e is))

-- the lists of both are in rising order
pub record BothRise (change : Change) : Type 0 where
  pub withdrawn : IsStrictlySortedBy prefix_order change.withdrawn
  pub announced : IsStrictlySortedBy prefix_order change.announced

nothing_rises : IsStrictlySortedBy prefix_order []
unfolding IsStrictlySortedBy
nothing_rises = tt

pub withdrawn_rise : (ws ns : List Prefix) (new old : Change) → new ≡ old → IsWithdrawn ws ns old → BothRise new
withdrawn_rise ws ns new old e is =
    subst (λ (x : Change). BothRise x) (sym e) (record { withdrawn = is.rising; announced = subst (λ (ps : List Prefix). IsStrictlySortedBy prefix_order ps) (sym is.announced) nothing_rises })

pub announced_rise : (ws ns : List Prefix) (m : List Attribute) (new old : Change) → new ≡ old → IsAnnounced ws ns m old → BothRise new
announced_rise ws ns m new old e is = subst (λ (x : Change). BothRise x) (sym e) (record { withdrawn = is.rising; announced = is.announced_rising })
