-- What a message of an outlet makes of what its client was told.
use Rattle.std.proofs.Common.{◌≡◌, ◌||◌, ◌&&◌, nat_eq, ℕ, Bool, true, false, List, [], ◌∷◌, ◌++◌, ◌≤◌, length, refl, sym, ◌∙◌, ap, subst, arith}
use Rattle.std.specs.Prelude.{Option, Some, None, if◌then◌else◌}
use Rattle.std.specs.List.{AllByRecursion}
use Rattle.std.specs.Ordering.{eq_by_cmp, is_eq, nat_cmp, ordering_then}
use Rattle.std.specs.declared.cmp.Ordering.{Ordering}
use Rattle.std.specs.declared.cmp.Ordering.TheVariants.{Less, Equal, Greater}
use Rattle.std.proofs.lemmas.Bool.Decides.{nat_tests}
use Rattle.rs_octets.specs.Prefixes.{Prefix, prefix_order}
use Rattle.rs_attrs.specs.Meaning.{Attribute}
use Rattle.rs_attrs.specs.Effects.{Change, has_prefix, once, overlaid, same_prefix}
use Rattle.rs_attrs.proofs.EachOnce.{same_is, once_has}
use Rattle.rs_packer.specs.Packed.{announcement, withdrawal}
use Rattle.rs_packer.specs.Laws.{IsAnnounceable, IsWithdrawable}
use Rattle.rs_packer.proofs.EachOnce.{announcement_announces, withdrawal_withdraws}
use Rattle.rs_open.specs.Notes.{limit_octets}
use Rattle.rs_outlet.specs.declared.answers.Speech.{Speech}
use Rattle.rs_outlet.specs.Message.Begins.{is_among}
use Rattle.rs_core.specs.Told.Telling.{Speaks}
use Rattle.rs_core.proofs.Told.Telling.{announcement_is_message, speaks_over, withdrawal_is_message}

both_equal : (r s : Ordering) → is_eq (ordering_then r s) ≡ (is_eq r && is_eq s)
both_equal Less s = refl
both_equal Equal s = refl
both_equal Greater s = refl

numbers_equal : (x y : ℕ) → is_eq (nat_cmp x y) ≡ nat_eq x y
numbers_equal x y = grind (arith, nat_tests)

tied_same : (a b : Prefix) → eq_by_cmp prefix_order a b ≡ same_prefix a b
tied_same a b = both_equal (nat_cmp a.bits b.bits) (nat_cmp a.len b.len) ∙ (λ i. numbers_equal a.bits b.bits i && numbers_equal a.len b.len i)

pub among_has : (q : Prefix) (ps : List Prefix) → is_among q ps ≡ has_prefix q ps
among_has q [] = refl
among_has q (p ∷ ps) = λ i. tied_same q p i || among_has q ps i

-- what holds of each of them holds of one that is among them
pub all_at : (P : Prefix → Type 0) (ps : List Prefix) (q : Prefix) → AllByRecursion P ps → has_prefix q ps ≡ true → P q
all_at P [] q h e = absurd (let f : false ≡ true = e in cc)
all_at P (p ∷ ps) q h e = by_test (same_prefix q p) refl (all_at P ps q h.1) where
  by_test : (b : Bool) → same_prefix q p ≡ b → (has_prefix q ps ≡ true → P q) → P q
  by_test true f later = subst P (sym (same_is q p f)) h.0
  by_test false f later = later (sym (ap (λ b. b || has_prefix q ps) f) ∙ e)

-- these prefixes are announced with the attributes that are due there
pub announced_speaks : (speech : Speech) (octets flight : List ℕ) (t loc u : Prefix → Option (List Attribute)) (ps : List Prefix) (m : List Attribute) → IsAnnounceable m speech.mode ps
    → length flight ≤ limit_octets speech.limit → flight ≡ announcement m speech.mode ps → AllByRecursion (λ p. loc p ≡ Some m) ps → ((q : Prefix) → u q ≡ (if is_among q ps then loc q else t q))
    → Speaks speech octets t → Speaks speech (octets ++ flight) u
announced_speaks speech octets flight t loc u ps m ok fits is due says s =
    subst (λ f. Speaks speech (octets ++ f) u) (sym is)
    (speaks_over speech octets (announcement m speech.mode ps) t u change (announcement_is_message speech flight m ps is fits) (announcement_announces m speech.mode ps ok) (λ q. over q (has_prefix q ps) refl) s) where
      change : Change
      change = record { withdrawn = []; announced = once ps; attributes = Some m }

      over : (q : Prefix) (b : Bool) → has_prefix q ps ≡ b → u q ≡ overlaid t change q
      over q true e = says q ∙ ap (λ b. if b then loc q else t q) (among_has q ps ∙ e) ∙ all_at (λ p. loc p ≡ Some m) ps q due e
          ∙ sym (ap (λ b. if b then (if b then Some m else None) else t q) (once_has q ps ∙ e))
      over q false e = says q ∙ ap (λ b. if b then loc q else t q) (among_has q ps ∙ e) ∙ sym (ap (λ b. if b then (if b then Some m else None) else t q) (once_has q ps ∙ e))

-- these prefixes are withdrawn, and nothing is due there
pub withdrawn_speaks : (speech : Speech) (octets flight : List ℕ) (t loc u : Prefix → Option (List Attribute)) (ps : List Prefix) → IsWithdrawable ps
    → length flight ≤ limit_octets speech.limit → flight ≡ withdrawal ps → AllByRecursion (λ p. loc p ≡ None) ps → ((q : Prefix) → u q ≡ (if is_among q ps then loc q else t q))
    → Speaks speech octets t → Speaks speech (octets ++ flight) u
withdrawn_speaks speech octets flight t loc u ps ok fits is due says s =
    subst (λ f. Speaks speech (octets ++ f) u) (sym is)
    (speaks_over speech octets (withdrawal ps) t u change (withdrawal_is_message speech.limit flight ps is fits) (withdrawal_withdraws speech.mode ps ok) (λ q. over q (has_prefix q ps) refl) s) where
      change : Change
      change = record { withdrawn = once ps; announced = []; attributes = None }

      over : (q : Prefix) (b : Bool) → has_prefix q ps ≡ b → u q ≡ overlaid t change q
      over q true e = says q ∙ ap (λ b. if b then loc q else t q) (among_has q ps ∙ e) ∙ all_at (λ p. loc p ≡ None) ps q due e
          ∙ sym (ap (λ b. if b || false then None else t q) (once_has q ps ∙ e))
      over q false e = says q ∙ ap (λ b. if b then loc q else t q) (among_has q ps ∙ e) ∙ sym (ap (λ b. if b || false then None else t q) (once_has q ps ∙ e))
