-- What an UPDATE says to a session, as the code finds it.
use Rattle.std.proofs.Common.{◌≡◌, ◌≢◌, inl, inr, ℕ, zero, suc, Bool, true, false, List, [], ◌∷◌, length, refl, sym, ◌∙◌, ap, subst, Global}
use Rattle.std.specs.Prelude.{Option, Some, None, IsSome, is_none, is_some, nat_lt, option_map, if◌then◌else◌}
use Rattle.std.proofs.lemmas.Bool.{false≢true}
use Rattle.std.specs.Arc.{arc_value}
use Rattle.std.specs.Global.{Vec}
use Rattle.std.specs.declared.sync.Arc.{Arc}
use Rattle.rs_octets.specs.declared.heads.Kind.TheVariants as kinds
use Rattle.rs_octets.specs.Prefixes.{Prefix}
use Rattle.rs_attrs.specs.declared.mode.Mode.{Mode}
use Rattle.rs_attrs.specs.Meaning.{Attribute}
use Rattle.rs_attrs.specs.declared.faults.Faulted.{Faulted}
use Rattle.rs_attrs.specs.Effects.{Fields, IsBody, Effect, Reset, Changes, Change, HasEffect, has_prefix, is_empty, fields_of, effect_of, faulted_in}
use Rattle.rs_update.proofs.BodyFields.{fields_of_body}
use Rattle.rs_update.specs.Laws.{IsSameChange, IsSameEffect}
use Rattle.rs_update.specs.Outcomes.{effect_seen, HasItsAttributes, NamesFaults}
use Rattle.rs_update.specs.declared.outcome.Outcome.{Outcome}
use Rattle.rs_update.specs.declared.outcome.Outcome.TheVariants as outcomes
use Rattle.rs_session.specs.declared.heard.Heard.TheVariants as heard
use Rattle.rs_session.specs.declared.settings.Settings.{Settings}
use Rattle.rs_session.specs.Items.{Item, Message, is_connected, message_count}
use Rattle.rs_session.specs.Endings.{Fate, GoesOn, Ends, message_fate}
use Rattle.rs_session.specs.Sessions.{state_of, state_by, fate, earlier, agreed_mode}
use Rattle.rs_policy.specs.Configuration.{Configuration, client_of}
use Rattle.rs_core.specs.Session.Hearing.{Hearing, session_in, state_in, is_up, mode_in, table_in, without_change, changing, update_said, effect_said, faulted_by_fields, held_by, reset_beyond, body_said, takes_in}
use Rattle.rs_core.specs.Run.Parts.{Follows, IsAnnouncing}
use Rattle.rs_core.specs.Session.OperatorRecords.{no_faults}
use Rattle.rs_core.specs.Run.Agreeing.{Knows}
use Rattle.rs_core.specs.declared.route_server.Core.{Core}
use Rattle.rs_core.proofs.Run.Acting.{said_follows}
use Rattle.rs_core.proofs.Session.Updating.{is_change, is_reset}
use Rattle.rs_core.proofs.Session.Faulting.{found}
use Rattle.rs_core.proofs.Session.Limits.{reset_if}

-- ---- by its mode and its effect

by_effect : (new : Core) (s : Configuration) (c : ℕ) (h : Hearing) (body : List ℕ) (mode : Mode) (e : Effect) → mode_in s c h ≡ Some mode → effect_of body mode ≡ e
    → Knows new s c (takes_in s c (effect_said (client_of s c).limit h.changes (faulted_by_fields mode (fields_of body)) e) h) → Knows new s c (takes_in s c (body_said s c h kinds.Update body) h)
by_effect new s c h body mode e m is knows =
    subst (λ o. Knows new s c (takes_in s c (update_said o (client_of s c).limit h.changes body) h)) (sym m)
    (subst (λ x. Knows new s c (takes_in s c (effect_said (client_of s c).limit h.changes (faulted_by_fields mode (fields_of body)) x) h)) (sym is) knows)

pub update_reset : (new : Core) (s : Configuration) (c : ℕ) (h : Hearing) (body : List ℕ) (mode : Mode) (code sub : ℕ) → mode_in s c h ≡ Some mode
    → IsSameEffect (Reset code sub) (effect_of body mode) → Knows new s c (takes_in s c (without_change (heard.Update (Some (code, sub)))) h)
    → Knows new s c (takes_in s c (body_said s c h kinds.Update body) h)
update_reset new s c h body mode code sub m same knows = by_effect new s c h body mode (Reset code sub) m (is_reset (effect_of body mode) code sub same) knows

pub update_changes : (new : Core) (s : Configuration) (c : ℕ) (h : Hearing) (body : List ℕ) (mode : Mode) (change : Change) (reset : Option (ℕ × ℕ)) (faulted : Faulted) → mode_in s c h ≡ Some mode
    → effect_of body mode ≡ Changes change → reset_beyond (client_of s c).limit (change ∷ h.changes) ≡ reset → faulted ≡ faulted_by_fields mode (fields_of body)
    → Knows new s c (takes_in s c (changing reset change faulted) h)
    → Knows new s c (takes_in s c (body_said s c h kinds.Update body) h)
update_changes new s c h body mode change reset faulted m is beyond at_fault knows =
    by_effect new s c h body mode (Changes change) m is
    (subst (λ f. Knows new s c (takes_in s c (changing (reset_beyond (client_of s c).limit (change ∷ h.changes)) change f) h)) at_fault
    (subst (λ r. Knows new s c (takes_in s c (changing r change faulted) h)) (sym beyond) knows))

-- where a part of it that was heard gave another value, the whole does
pub update_within : (s : Configuration) (c : ℕ) (h : Hearing) (body : List ℕ) (mode : Mode) (change : Change) (faulted : Faulted) (p : Prefix) → mode_in s c h ≡ Some mode → effect_of body mode ≡ Changes change
    → reset_beyond (client_of s c).limit (change ∷ h.changes) ≡ None → table_in s c (takes_in s c (changing None change no_faults) (found faulted h)) p ≢ table_in s c (found faulted h) p
    → table_in s c (takes_in s c (body_said s c h kinds.Update body) h) p ≢ table_in s c h p
update_within s c h body mode change faulted p m is beyond differs = λ same.
    let limit = (client_of s c).limit in
    let at_fault_by = faulted_by_fields mode (fields_of body) in
    let said : body_said s c h kinds.Update body ≡ changing None change at_fault_by =
    ap (λ o. update_said o limit h.changes body) m ∙ ap (effect_said limit h.changes at_fault_by) is ∙ ap (λ r. changing r change at_fault_by) beyond in
    differs (ap (λ x. table_in s c (takes_in s c x h) p) (sym said) ∙ same)

-- what the operator is shown of it is read off its fields
at_fault : (body : List ℕ) (mode : Mode) (x : Change) (faulted : Faulted) → HasEffect body mode (Changes x)
    → ((fields : Fields) → IsBody body fields → faulted ≡ faulted_in fields mode) → faulted ≡ faulted_by_fields mode (fields_of body)
at_fault body mode x faulted has told = elim has [
  | inl none ↦ absurd (let e : ◌≡◌ {A = Effect} (Changes x) (Reset 3 1) = none.1 in cc)
  | inr it ↦ told it.0 it.1 ∙ sym (ap (faulted_by_fields mode) (fields_of_body body it.0 it.1))
]

up_by : (b : Bool) (m : Option Mode) (mode : Mode) → (if b then m else None) ≡ Some mode → b ≡ true
up_by true m mode e = refl
up_by false m mode e = absurd (cc)

-- only a client that is Established has a mode
pub moded_up : (s : Configuration) (c : ℕ) (h : Hearing) (mode : Mode) → mode_in s c h ≡ Some mode → is_up (state_in s c h) ≡ true
moded_up s c h mode e = up_by (is_up (state_in s c h)) (agreed_mode (session_in s c) h.items) mode e

-- ---- a limit

pub is_reset_beyond : (limit : Option ℕ) (changes : List Change) → is_some (reset_beyond limit changes) ≡ true → reset_beyond limit changes ≡ Some (6, 1)
is_reset_beyond None changes e = absurd (cc)
is_reset_beyond (Some limit) changes e = beyond_by (nat_lt limit (length (held_by changes))) e where
  beyond_by : (b : Bool) → is_some (reset_if b) ≡ true → reset_if b ≡ Some (6, 1)
  beyond_by true e = refl
  beyond_by false e = absurd (cc)

pub is_none_beyond : (limit : Option ℕ) (changes : List Change) → is_some (reset_beyond limit changes) ≡ false → reset_beyond limit changes ≡ None
is_none_beyond None changes e = refl
is_none_beyond (Some limit) changes e = beyond_by (nat_lt limit (length (held_by changes))) e where
  beyond_by : (b : Bool) → is_some (reset_if b) ≡ false → reset_if b ≡ None
  beyond_by true e = absurd (cc)
  beyond_by false e = refl

reset_ends_by : (b : Bool) (was : Fate) (settings : Settings) (reset : ℕ × ℕ) (n k : ℕ)
    → is_up (state_by b (earlier was (message_fate settings.peer_as n (heard.Update (Some reset)))) k) ≡ false
reset_ends_by false was settings reset n k = refl
reset_ends_by true (Ends said) settings reset n k = refl
reset_ends_by true GoesOn settings reset zero k = refl
reset_ends_by true GoesOn settings reset (suc zero) k = refl
reset_ends_by true GoesOn settings reset (suc (suc n)) k = refl

reset_ends : (settings : Settings) (reset : ℕ × ℕ) (items : List Item) → is_up (state_of settings (Message (heard.Update (Some reset)) ∷ items)) ≡ false
reset_ends settings reset items = reset_ends_by (is_connected items) (fate settings items) settings reset (message_count items) (suc (message_count items))

-- a change that resets the session changes nothing any more
pub reset_follows : (s : Configuration) (c : ℕ) (h : Hearing) (reset : ℕ × ℕ) (change : Change)
    → Follows s c (heard.Update (Some reset)) [] h (takes_in s c (changing (Some reset) change no_faults) h)
reset_follows s c h reset change = said_follows s c (heard.Update (Some reset)) (Some change) [] h (λ up now. absurd (false≢true (sym (reset_ends (session_in s c) reset h.items) ∙ now)))

-- ---- the lists of the code

announced_some : (p : Prefix) (ps : List Prefix) → has_prefix p ps ≡ true → is_empty ps ≡ false
announced_some p [] e = absurd (cc)
announced_some p (q ∷ ps) e = refl

mapped_some : {X Y : Type 0} (f : X → Y) (o : Option X) → is_none o ≡ false → IsSome (option_map f o)
mapped_some f None e = absurd (cc)
mapped_some f (Some x) e = refl

announcing : {X : Type 0} (f : X → List Attribute) (attrs : Option X) (W A : List Prefix) (change : Change) → is_none attrs ≡ is_empty A
    → IsSameChange (record { withdrawn = W; announced = A; attributes = option_map f attrs }) change → IsAnnouncing W A change
announcing f attrs W A change there same = record {
  withdrawn_are = λ p. sym (same.withdrawn p);
  announced_are = λ p. sym (same.announced p);
  with_attributes = λ p e. subst IsSome same.attributes (mapped_some f attrs (there ∙ announced_some p A e));
}

-- the change that an UPDATE is, where these are the routes and the faults that the code found
pub record IsFound (body : List ℕ) (mode : Mode) (withdrawn announced : List Prefix) (attributes : Option (List Attribute)) (faulted : Faulted) : Type 0 where
  pub change : Change
  pub is : effect_of body mode ≡ Changes change
  pub same : IsSameChange (record { withdrawn = withdrawn; announced = announced; attributes = attributes }) change
  pub announces : IsAnnouncing withdrawn announced change
  pub noted : faulted ≡ faulted_by_fields mode (fields_of body)

pub is_found : (body : List ℕ) (mode : Mode) (o : Outcome) (withdrawn announced : Vec Prefix) (attrs : Option (Arc (List Attribute) Global)) (faulted : Faulted) → o ≡ outcomes.Change withdrawn announced attrs faulted
    → IsSameEffect (effect_seen o) (effect_of body mode) → HasEffect body mode (effect_seen o) → NamesFaults body mode o → HasItsAttributes o → IsFound body mode withdrawn.items announced.items (option_map arc_value attrs) faulted
is_found body mode o withdrawn announced attrs faulted is computed effect named its =
    let it = is_change _ (effect_of body mode) (subst (λ x. IsSameEffect (effect_seen x) (effect_of body mode)) is computed) in
    record {
      change = it.change;
      is = it.is;
      same = it.same;
      announces = announcing arc_value attrs withdrawn.items announced.items it.change (subst HasItsAttributes is its) it.same;
      noted = at_fault body mode _ faulted (subst (λ x. HasEffect body mode (effect_seen x)) is effect) (subst (λ x. NamesFaults body mode x) is named);
    }

-- as slices have the lists
pub announcing_as : (W A w a : List Prefix) (change : Change) → w ≡ W → a ≡ A → IsAnnouncing W A change → IsAnnouncing w a change
announcing_as W A w a change withdrawn announced is = subst (λ x. IsAnnouncing w x change) (sym announced) (subst (λ x. IsAnnouncing x A change) (sym withdrawn) is)

pub same_change_as : (W A w a : List Prefix) (attributes : Option (List Attribute)) (change : Change) → w ≡ W → a ≡ A → IsSameChange (record { withdrawn = W; announced = A; attributes = attributes }) change
    → IsSameChange (record { withdrawn = w; announced = a; attributes = attributes }) change
same_change_as W A w a attributes change withdrawn announced is =
    subst (λ x. IsSameChange (record { withdrawn = w; announced = x; attributes = attributes }) change) (sym announced)
    (subst (λ x. IsSameChange (record { withdrawn = x; announced = A; attributes = attributes }) change) (sym withdrawn) is)
