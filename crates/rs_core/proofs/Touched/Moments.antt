-- What a moment touches for the clients, as one session after the other sees it.
use Rattle.std.proofs.Common.{◌≡◌, ◌≢◌, ◌⊎◌, inl, inr, ◌<◌, ◌≤◌, ◌+◌, ℕ, true, List, [], ◌∷◌, ◌++◌, refl, sym, ◌∙◌, ap, subst, arith}
use Rattle.std.specs.Prelude.{Option, Some, IsSome}
use Rattle.std.proofs.lemmas.List.Elements.{Contains-append_left, Contains-append_right, Contains-append_cases}
use Rattle.std.proofs.lemmas.Bool.{cases_lt}
use Rattle.rs_octets.specs.Prefixes.{Prefix}
use Rattle.rs_adjin.specs.AdjIns.{held_of}
use Rattle.rs_policy.specs.Configuration.{Configuration}
use Rattle.rs_outlet.specs.declared.answers.Speech.{Speech}
use Rattle.rs_outlet.specs.Views.{Prefixes, with_touch}
use Rattle.rs_core.specs.Run.Moves.{Move, Saw, config_in}
use Rattle.rs_core.specs.Session.Hearing.{Hearing, sees}
use Rattle.rs_core.specs.Run.Meaning.{hearing, is_established}
use Rattle.rs_core.specs.Ribs.{outlet_in, TouchesOthersAtChange}
use Rattle.rs_core.specs.Run.Agreeing.{AgreesAt}
use Rattle.rs_core.specs.Core.{client_count, touched_for}
use Rattle.rs_core.specs.Run.Parts.{KeepsOwnTouches}
use Rattle.rs_core.specs.Touched.ByRun.{IsChangedBy, IsChangedElsewhere, TouchesChanges, TouchesWhere, with_touches}
use Rattle.rs_core.specs.declared.route_server.Core.{Core}
use Rattle.rs_core.proofs.Run.Agreeing.{HaveSeen}
use Rattle.rs_core.proofs.Run.Clients.{equal_or}
use Rattle.rs_core.proofs.Owed.Drained.{up_spoken}
use Rattle.rs_core.proofs.Run.Outgoing.{within}
use Rattle.rs_core.proofs.Owed.Sending.{nobody, touched_is}
use Rattle.rs_core.proofs.Touched.ChangedPrefixes.{where_as}
use Rattle.rs_core.proofs.Touched.Calls.{outlet_touched}

-- ---- touches one after the other

touched_join : (ps qs : List Prefix) (o : Option Prefixes) → with_touches (ps ++ qs) o ≡ with_touches qs (with_touches ps o)
touched_join [] qs o = refl
touched_join (p ∷ ps) qs o = touched_join ps qs (with_touch o p)

pub touches_join : (P Q R : Prefix → Type 0) (a b d : Option Prefixes) → ((p : Prefix) → P p → R p) → ((p : Prefix) → Q p → R p) → ((p : Prefix) → R p → P p ⊎ Q p) → TouchesWhere P a b → TouchesWhere Q b d → TouchesWhere R a d
touches_join P Q R a b d first second either h k = record {
  prefixes = h.prefixes ++ k.prefixes;
  just = λ p. (
    λ has. elim (Contains-append_cases h.prefixes k.prefixes p has) [
      | inl there ↦ first p ((h.just p).0 there)
      | inr there ↦ second p ((k.just p).0 there)
    ],
    λ holds. elim (either p holds) [
      | inl so ↦ Contains-append_left h.prefixes k.prefixes p ((h.just p).1 so)
      | inr so ↦ Contains-append_right h.prefixes k.prefixes p ((k.just p).1 so)
    ],
  );
  are = k.are ∙ ap (with_touches k.prefixes) h.are ∙ sym (touched_join h.prefixes k.prefixes a);
}

pub touches_as : (P R : Prefix → Type 0) (a b : Option Prefixes) → ((p : Prefix) → P p → R p) → ((p : Prefix) → R p → P p) → TouchesWhere P a b → TouchesWhere R a b
touches_as P R a b there back h = record { prefixes = h.prefixes; just = λ p. (λ has. there p ((h.just p).0 has), λ holds. (h.just p).1 (back p holds)); are = h.are }

pub touches_nothing : (P : Prefix → Type 0) (a b : Option Prefixes) → b ≡ a → ((p : Prefix) → P p → ⊥) → TouchesWhere P a b
touches_nothing P a b same none = record {
  prefixes = [];
  just = λ p. (λ has. absurd (let lt = has.1 in omega (arith, lt)), λ holds. absurd (none p holds));
  are = same;
}

-- ---- one client after the other

-- what changed for the clients below n was touched for the others
pub record HaveTouched (t n : ℕ) (run : List Move) (old new : Core) : Type 0 where
  pub each : (d : ℕ) → d < old.count → is_established run d ≡ true → is_established (Saw t ∷ run) d ≡ true
      → TouchesWhere (IsChangedElsewhere n (Saw t) run d) (outlet_in old.ribs d nobody).touched (outlet_in new.ribs d nobody).touched

pub none_touched_yet : (t : ℕ) (core : Core) (run : List Move) → HaveTouched t 0 run core core
none_touched_yet t core run = record { each = λ d lt up still. touches_nothing _ _ _ refl (λ p changed. absurd (let below = changed.1 in omega (arith, below))) }

pub one_touched_more : (t c n : ℕ) (old mid new : Core) (run : List Move) → n ≡ c + 1 → c < mid.count → mid.count ≡ old.count → HaveSeen t c mid run → new.ribs.config ≡ mid.ribs.config
    → ((s : Configuration) (h : Hearing) → AgreesAt mid s c h → AgreesAt new s c (sees s c t h)) → TouchesOthersAtChange c mid.ribs new.ribs → KeepsOwnTouches c mid new → HaveTouched t c run old mid → HaveTouched t n run old new
one_touched_more t c n old mid new run next there count seen config sees_at others_touched keeps h = record { each = λ d lt up still. by_client d lt up still (equal_or d c) } where
  s : Configuration
  s = config_in run

  was : AgreesAt mid s c (hearing c run)
  was = seen.unseen c (omega arith) there

  now : AgreesAt new s c (sees s c t (hearing c run))
  now = sees_at s (hearing c run) was

  kept : is_established run c ≡ true → is_established (Saw t ∷ run) c ≡ true → (outlet_in new.ribs c nobody).touched ≡ (outlet_in mid.ribs c nobody).touched
  kept up still =
      let before = up_spoken s c (hearing c run) up in
      let behind = up_spoken s c (sees s c t (hearing c run)) still in
      (keeps s (hearing c run) seen.config was.knows nobody).kept (subst IsSome (sym ((was.knows.outlet seen.config nobody).speech ∙ before.1)) refl)
      (subst IsSome (sym ((now.knows.outlet (config ∙ seen.config) nobody).speech ∙ behind.1)) refl)

  speaks : (d : ℕ) → d < mid.count → is_established run d ≡ true → is_established (Saw t ∷ run) d ≡ true → (d < c) ⊎ (c ≤ d) → (speech : Speech) × ((outlet_in mid.ribs d nobody).speech ≡ Some speech)
  speaks d lt up still (inl below) = let heard = up_spoken s d (sees s d t (hearing d run)) still in (heard.0, ((seen.seen d below lt).knows.outlet seen.config nobody).speech ∙ heard.1)
  speaks d lt up still (inr above) = let heard = up_spoken s d (hearing d run) up in (heard.0, ((seen.unseen d above lt).knows.outlet seen.config nobody).speech ∙ heard.1)

  by_client : (d : ℕ) → d < old.count → is_established run d ≡ true → is_established (Saw t ∷ run) d ≡ true → (d ≡ c) ⊎ (d ≢ c)
      → TouchesWhere (IsChangedElsewhere n (Saw t) run d) (outlet_in old.ribs d nobody).touched (outlet_in new.ribs d nobody).touched
  by_client d lt up still (inl e) =
      let same : (outlet_in new.ribs d nobody).touched ≡ (outlet_in mid.ribs d nobody).touched =
      subst (λ k. (outlet_in new.ribs k nobody).touched ≡ (outlet_in mid.ribs k nobody).touched) (sym e) (kept (subst (λ k. is_established run k ≡ true) e up) (subst (λ k. is_established (Saw t ∷ run) k ≡ true) e still)) in
      subst (λ o. TouchesWhere (IsChangedElsewhere n (Saw t) run d) (outlet_in old.ribs d nobody).touched o) (sym same)
      (touches_as (IsChangedElsewhere c (Saw t) run d) (IsChangedElsewhere n (Saw t) run d) _ _
      (λ p x. let below = x.1 in (x.0, omega (arith, below, next), x.2, x.3))
      (λ p x. let below = x.1 in let other : x.0 ≢ c = λ f. x.2 (f ∙ sym e) in (x.0, omega (arith, below, next, other), x.2, x.3)) (h.each d lt up still))
  by_client d lt up still (inr ne) =
      let within_mid : d < mid.count = subst (λ k. d < k) (sym count) lt in
      let heard = speaks d within_mid up still (cases_lt d c) in
      touches_join (IsChangedElsewhere c (Saw t) run d) (IsChangedBy (Saw t) run c) (IsChangedElsewhere n (Saw t) run d) _ (outlet_in mid.ribs d nobody).touched _
      (λ p x. let below = x.1 in (x.0, omega (arith, below, next), x.2, x.3))
      (λ p x. (c, omega (arith, next), (λ f. ne (sym f)), x))
      (λ p x. let below = x.1 in elim (equal_or x.0 c) [
        | inl e ↦ inr (subst (λ k. IsChangedBy (Saw t) run k p) e x.3)
        | inr other ↦ inl (x.0, omega (arith, below, next, other), x.2, x.3)
      ])
      (h.each d lt up still)
      (outlet_touched (IsChangedBy (Saw t) run c) (outlet_in mid.ribs d nobody) (outlet_in new.ribs d nobody) heard.0 heard.1
      (where_as (λ p. held_of new.ribs.tables c p ≢ held_of mid.ribs.tables c p) (IsChangedBy (Saw t) run c) (outlet_in mid.ribs d nobody) (outlet_in new.ribs d nobody) (others_touched.others d nobody (within mid d within_mid) ne)
      (λ p. (λ differs e. differs (now.knows.table p ∙ e ∙ sym (was.knows.table p)), λ differs e. differs (sym (now.knows.table p) ∙ e ∙ was.knows.table p)))))

pub all_touched_then : (t n : ℕ) (old new : Core) (run : List Move) → n ≤ old.count → old.count ≤ n → new.count ≡ old.count → HaveTouched t n run old new → TouchesChanges (Saw t) run old new
unfolding client_count
all_touched_then t n old new run most least count h = record {
  each = λ d lt up still.
      let all : n ≡ old.count = omega (arith, most, least) in
      subst (λ o. TouchesWhere (IsChangedElsewhere old.count (Saw t) run d) o (touched_for new d)) (sym (touched_is old d lt))
      (subst (λ o. TouchesWhere (IsChangedElsewhere old.count (Saw t) run d) (outlet_in old.ribs d nobody).touched o) (sym (touched_is new d (subst (λ k. d < k) (sym count) lt)))
      (subst (λ k. TouchesWhere (IsChangedElsewhere k (Saw t) run d) (outlet_in old.ribs d nobody).touched (outlet_in new.ribs d nobody).touched) all (h.each d lt up still)));
}
