-- Calls of one outlet that keep what is decided, and turns of all.
use Rattle.std.proofs.Common.{◌≡◌, ◌≢◌, ◌⊎◌, inl, inr, ◌<◌, ℕ, List, [], length, sym, ◌∙◌, ap, subst}
use Rattle.std.specs.Prelude.{Option, None}
use Rattle.std.specs.FinMap as map
use Rattle.rs_octets.specs.Prefixes.{Prefix}
use Rattle.rs_attrs.specs.Meaning.{Attribute}
use Rattle.rs_adjin.specs.declared.adj_ins.AdjIns.{AdjIns}
use Rattle.rs_policy.specs.Configuration.{Configuration}
use Rattle.rs_outlet.specs.declared.answers.Speech.{Speech}
use Rattle.rs_outlet.specs.Decided.Due.{due_to}
use Rattle.rs_outlet.specs.Decided.HeldBy.{tables_of}
use Rattle.rs_outlet.specs.Views.{View, AreNumbered, HaveNumbers, IsStaleTouched, is_touched}
use Rattle.rs_workers.specs.Turned.{TurnedAlone, AllTurnedAlone}
use Rattle.rs_core.specs.Ribs.{outlet_in, due_in, IsDecidedBy, IsFresh, IsNumbered, KeepsFresh, KeepsSettings, ChangesOwn, ChangesAll}
use Rattle.rs_core.specs.Touched.Turns.{IsTurn}
use Rattle.rs_core.specs.declared.ribs.Ribs.{Ribs}
use Rattle.rs_core.proofs.Run.Clients.{equal_or}
use Rattle.rs_core.proofs.Run.Freshness.{silent_decided}
use Rattle.rs_core.proofs.Touched.Turned.{turn_decided, turn_numbered}

-- what is due to a client, as long as neither the tables nor the rules change
due_still : (old new : Ribs) → KeepsSettings old new → new.tables ≡ old.tables → (c : ℕ) (w : View) → IsDecidedBy (due_in old c) w → IsDecidedBy (due_in new c) w
due_still old new settings tables c w h =
    subst (λ t. IsDecidedBy (due_to (tables_of new.config t) c) w) (sym tables)
    (subst (λ k. IsDecidedBy (due_to (tables_of k old.tables) c) w) (sym settings.config) h)

-- ---- the outlet of one client

module _ (c : ℕ) (Is : View → View → Type 0) (old new : Ribs) (settings : KeepsSettings old new) (tables : new.tables ≡ old.tables) (changes : ChangesOwn c Is old new)
    (numbered : (v w : View) → Is v w → AreNumbered v old.tables → AreNumbered w old.tables) (decided : (due : Speech → Prefix → Option (List Attribute)) (v w : View) → Is v w → IsDecidedBy due v → IsDecidedBy due w) where
  numbered_at : IsNumbered old → (d : ℕ) (none : View) → d < old.count → (d ≡ c) ⊎ (d ≢ c) → AreNumbered (outlet_in new d none) old.tables
  numbered_at h d none lt (inl e) = subst (λ k. AreNumbered (outlet_in new k none) old.tables) (sym e) (let there = subst (λ k. k < old.count) e lt in numbered _ _ (changes.own none there) (h.each c none there))
  numbered_at h d none lt (inr ne) = subst (λ v. AreNumbered v old.tables) (sym (changes.others d none ne)) (h.each d none lt)

  decided_at : IsFresh old → (d : ℕ) (none : View) → d < old.count → (d ≡ c) ⊎ (d ≢ c) → IsDecidedBy (due_in old d) (outlet_in new d none)
  decided_at f d none lt (inl e) =
      subst (λ k. IsDecidedBy (due_in old k) (outlet_in new k none)) (sym e) (let there = subst (λ k. k < old.count) e lt in decided (due_in old c) _ _ (changes.own none there) (f.each c none there))
  decided_at f d none lt (inr ne) = subst (IsDecidedBy (due_in old d)) (sym (changes.others d none ne)) (f.each d none lt)

  own_keeps : KeepsFresh old new
  own_keeps = record {
    numbered = λ h. record { each = λ d none lt. subst (λ ins. AreNumbered (outlet_in new d none) ins) (sym tables) (numbered_at h d none (subst (λ n. d < n) settings.count lt) (equal_or d c)) };
    fresh = λ h f. record { each = λ d none lt. due_still old new settings tables d _ (decided_at f d none (subst (λ n. d < n) settings.count lt) (equal_or d c)) };
  }

-- what is decided, touched, stale and numbered is as it was
pub record IsAsDecided (v w : View) : Type 0 where
  pub speech : w.speech ≡ v.speech
  pub loc : w.loc ≡ v.loc
  pub touched : w.touched ≡ v.touched
  pub stale : w.stale ≡ v.stale
  pub numbers : w.numbers ≡ v.numbers

still_decided : (due : Speech → Prefix → Option (List Attribute)) (v w : View) → IsAsDecided v w → IsDecidedBy due v → IsDecidedBy due w
still_decided due v w h decided = record {
  at = λ speech p up un. ap (λ t. map.get t p) h.loc ∙ decided.at speech p (sym h.speech ∙ up) (sym (ap (λ o. is_touched o p) h.stale) ∙ un);
  stale_touched = λ p un. ap (λ o. is_touched o p) h.stale ∙ decided.stale_touched p (sym (ap (λ o. is_touched o p) h.touched) ∙ un);
}

pub as_decided : (c : ℕ) (old new : Ribs) → KeepsSettings old new → new.tables ≡ old.tables → ChangesOwn c IsAsDecided old new → KeepsFresh old new
as_decided c old new settings tables changes =
    own_keeps c IsAsDecided old new settings tables changes (λ v w h are. subst (λ es. HaveNumbers es old.tables) (sym h.numbers) are) still_decided

-- there is no session, and nothing is numbered
pub record IsEmptied (w : View) : Type 0 where
  pub speech : w.speech ≡ None
  pub numbers : w.numbers ≡ []
  pub stale_touched : IsStaleTouched w

pub emptied : (c : ℕ) (old new : Ribs) → KeepsSettings old new → new.tables ≡ old.tables → ChangesOwn c (λ v w. IsEmptied w) old new → KeepsFresh old new
emptied c old new settings tables changes =
    own_keeps c (λ v w. IsEmptied w) old new settings tables changes (λ v w h are. subst (λ es. HaveNumbers es old.tables) (sym h.numbers) tt) (λ due v w h decided. silent_decided due w h.speech h.stale_touched)

-- ---- a turn of all

as_turn : (config : Configuration) (ins : AdjIns) (v w : View) → TurnedAlone config ins v w → IsTurn config ins v w
as_turn config ins v w alone = elim alone.answer [
  | inl done ↦ inl (record { turned = done.0; last = done.1; decided = done.2; rest = alone.rest; numbered = alone.numbered; exact = alone.exact })
  | inr refused ↦ inr refused
]

-- where each was turned as if it were alone
pub all_turned : (config : Configuration) (ins : AdjIns) (old new : Ribs) → AllTurnedAlone config ins old.outlets.items new.outlets.items → ChangesAll (λ c. IsTurn config ins) old new
all_turned config ins old new alone = record { each = λ d none lt. as_turn config ins _ _ (alone d none (subst (λ n. d < n) (sym old.outlets_len) lt)) }

pub turned_keeps : (old new : Ribs) → KeepsSettings old new → new.tables ≡ old.tables → ChangesAll (λ c. IsTurn old.config old.tables) old new → KeepsFresh old new
turned_keeps old new settings tables turned = record {
  numbered = λ h. record {
    each = λ d none lt.
        let there = subst (λ n. d < n) settings.count lt in
        subst (λ ins. AreNumbered (outlet_in new d none) ins) (sym tables) (turn_numbered old.config old.tables _ _ (turned.each d none there) (h.each d none there));
  };
  fresh = λ h f. record {
    each = λ d none lt.
        let there = subst (λ n. d < n) settings.count lt in
        let within : d < length old.outlets.items = subst (λ n. d < n) (sym old.outlets_len) there in
        due_still old new settings tables d _
        (turn_decided old.config old.tables d (outlet_in old d none) (outlet_in new d none) (old.kept d none within).client (h.each d none there) (turned.each d none there) (f.each d none there));
  };
}
