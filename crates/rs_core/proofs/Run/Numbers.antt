-- Numbers of prefixes, and what a call that changes them leaves of those that outlets have.
use Rattle.std.proofs.Common.{◌≡◌, ◌≢◌, ◌⊎◌, inl, inr, ◌<◌, ℕ, List, [], ◌∷◌, sym, ◌∙◌, ap, subst}
use Rattle.rs_octets.specs.Prefixes.{Prefix}
use Rattle.rs_adjin.specs.declared.adj_ins.AdjIns.{AdjIns}
use Rattle.rs_adjin.specs.AdjIns.{GivesUp, KeepsNumbers, SameNumbers}
use Rattle.rs_outlet.specs.Inside.{IsNoNumberOf}
use Rattle.rs_outlet.specs.Views.{View, AreNumbered, HaveNumbers}
use Rattle.rs_core.specs.Ribs.{outlet_in, IsNumbered, ChangesOwn}
use Rattle.rs_core.specs.declared.ribs.Ribs.{Ribs}
use Rattle.rs_core.proofs.Run.Clients.{equal_or}

-- ---- of one outlet

pub have_kept : (old new : AdjIns) (es : List (ℕ × Prefix)) → KeepsNumbers old new → HaveNumbers es old → HaveNumbers es new
have_kept old new [] keeps h = tt
have_kept old new (e ∷ es) keeps h = (keeps e.1 e.0 h.0, have_kept old new es keeps h.1)

pub same_kept : (old new : AdjIns) → SameNumbers old new → KeepsNumbers old new
same_kept old new same p n is = same p ∙ is

pub kept_on : (a b c : AdjIns) → KeepsNumbers a b → KeepsNumbers b c → KeepsNumbers a c
kept_on a b c h k p n is = k p n (h p n is)

have_left : (old new : AdjIns) (n : ℕ) (es : List (ℕ × Prefix)) → GivesUp old new n → IsNoNumberOf n es → HaveNumbers es old → HaveNumbers es new
have_left old new n [] gives none h = tt
have_left old new n (e ∷ es) gives none h = (gives.kept e.1 e.0 none.0 h.0, have_left old new n es gives none.1 h.1)

-- ---- of all

pub numbered_kept : (old new : Ribs) → new.count ≡ old.count → KeepsNumbers old.tables new.tables → ((c : ℕ) (none : View) → outlet_in new c none ≡ outlet_in old c none) → IsNumbered old → IsNumbered new
numbered_kept old new count keeps outlets h = record {
  each = λ c none lt.
      subst (λ (v : View). HaveNumbers v.numbers new.tables) (sym (outlets c none)) (have_kept old.tables new.tables (outlet_in old c none).numbers keeps (h.each c none (subst (λ n. c < n) count lt)));
}

-- a number that no outlet has was given up
pub numbered_left : (old new : Ribs) (n : ℕ) → new.count ≡ old.count → GivesUp old.tables new.tables n → ((c : ℕ) (none : View) → outlet_in new c none ≡ outlet_in old c none)
    → ((c : ℕ) (none : View) → c < old.count → IsNoNumberOf n (outlet_in old c none).numbers) → IsNumbered old → IsNumbered new
numbered_left old new n count gives outlets free h = record {
  each = λ c none lt. let within : c < old.count = subst (λ n. c < n) count lt in
      subst (λ (v : View). HaveNumbers v.numbers new.tables) (sym (outlets c none)) (have_left old.tables new.tables n (outlet_in old c none).numbers gives (free c none within) (h.each c none within));
}

-- one outlet has none now
pub numbered_but : (old new : Ribs) (c : ℕ) (Is : View → View → Type 0) → new.count ≡ old.count → KeepsNumbers old.tables new.tables → ChangesOwn c Is old new → ((v w : View) → Is v w → w.numbers ≡ []) → IsNumbered old → IsNumbered new
numbered_but old new c Is count keeps changes none_left h = record { each = λ d none lt. by_client d none (subst (λ n. d < n) count lt) (equal_or d c) } where
  by_client : (d : ℕ) (none : View) → d < old.count → (d ≡ c) ⊎ (d ≢ c) → AreNumbered (outlet_in new d none) new.tables
  by_client d none lt (inl e) = subst (λ es. HaveNumbers es new.tables) (sym (ap (λ k. (outlet_in new k none).numbers) e ∙ none_left (outlet_in old c none) (outlet_in new c none) (changes.own none (subst (λ k. k < old.count) e lt)))) tt
  by_client d none lt (inr ne) = subst (λ (v : View). HaveNumbers v.numbers new.tables) (sym (changes.others d none ne)) (have_kept old.tables new.tables (outlet_in old d none).numbers keeps (h.each d none lt))
