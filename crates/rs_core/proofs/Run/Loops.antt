-- Loops that change one outlet after the other.
use Rattle.std.proofs.Common.{◌≡◌, ◌≢◌, ◌⊎◌, inl, inr, ◌<◌, ◌≤◌, ◌+◌, ℕ, zero, suc, List, [], ◌∷◌, length, slice_index_or, slice_set, get_or-set_same, get_or-set_other, refl, sym, ◌∙◌, ap, subst, arith}
use Rattle.std.proofs.lemmas.Bool.{cases_lt}
use Rattle.rs_adjin.specs.declared.adj_ins.AdjIns.{AdjIns}
use Rattle.rs_outlet.specs.Views.{View, AreNumbered}
use Rattle.rs_core.specs.Ribs.{outlet_in, IsNumbered, KeepsSettings, ChangesOwn, ChangesOthers, ChangesAll}
use Rattle.rs_core.specs.declared.ribs.Ribs.{Ribs}
use Rattle.rs_core.proofs.Run.Clients.{equal_or}

-- the outlets of the first k clients have changed so, and no other yet
pub record IsWalked (Is : ℕ → View → View → Type 0) (k : ℕ) (old new : Ribs) : Type 0 where
  pub settings : KeepsSettings old new
  pub tables : new.tables ≡ old.tables
  pub done : (d : ℕ) (none : View) → d < k → Is d (outlet_in old d none) (outlet_in new d none)
  pub todo : (d : ℕ) (none : View) → k ≤ d → outlet_in new d none ≡ outlet_in old d none

pub walk_begins : (Is : ℕ → View → View → Type 0) (old : Ribs) → IsWalked Is 0 old old
walk_begins Is old = record {
  settings = record { count = refl; extended = refl; config = refl };
  tables = refl;
  done = λ d none lt. absurd (omega (arith, lt));
  todo = λ d none le. refl;
}

pub settings_on : (a b c : Ribs) → KeepsSettings a b → KeepsSettings b c → KeepsSettings a c
settings_on a b c h k = record { count = k.count ∙ h.count; extended = k.extended ∙ h.extended; config = k.config ∙ h.config }

pub walk_on : (Is : ℕ → View → View → Type 0) (By : View → View → Type 0) (k : ℕ) (old mid new : Ribs) → k < old.count → IsWalked Is k old mid → KeepsSettings mid new → new.tables ≡ mid.tables → ChangesOwn k By mid new
    → ((v w : View) → By v w → Is k v w) → IsWalked Is (k + 1) old new
walk_on Is By k old mid new lt h settings tables changes so = record {
  settings = settings_on old mid new h.settings settings;
  tables = tables ∙ h.tables;
  done = λ d none below. by_place d none below (equal_or d k);
  todo = λ d none le. changes.others d none (λ e. absurd (omega (arith, e, le))) ∙ h.todo d none (omega (arith, le));
} where
  here : (none : View) → Is k (outlet_in old k none) (outlet_in new k none)
  here none = subst (λ v. Is k v (outlet_in new k none)) (h.todo k none (omega arith)) (so (outlet_in mid k none) (outlet_in new k none) (changes.own none (subst (λ n. k < n) (sym h.settings.count) lt)))

  by_place : (d : ℕ) (none : View) → d < k + 1 → (d ≡ k) ⊎ (d ≢ k) → Is d (outlet_in old d none) (outlet_in new d none)
  by_place d none below (inl e) = subst (λ j. Is j (outlet_in old j none) (outlet_in new j none)) (sym e) (here none)
  by_place d none below (inr ne) = subst (λ w. Is d (outlet_in old d none) w) (sym (changes.others d none ne)) (h.done d none (omega (arith, below, ne)))

-- a client whose outlet stays as it was
pub walk_past : (Is : ℕ → View → View → Type 0) (k : ℕ) (old mid : Ribs) → IsWalked Is k old mid → ((v : View) → Is k v v) → IsWalked Is (k + 1) old mid
walk_past Is k old mid h so = record {
  settings = h.settings;
  tables = h.tables;
  done = λ d none below. by_place d none below (equal_or d k);
  todo = λ d none le. h.todo d none (omega (arith, le));
} where
  here : (none : View) → Is k (outlet_in old k none) (outlet_in mid k none)
  here none = subst (λ w. Is k (outlet_in old k none) w) (sym (h.todo k none (omega arith))) (so (outlet_in old k none))

  by_place : (d : ℕ) (none : View) → d < k + 1 → (d ≡ k) ⊎ (d ≢ k) → Is d (outlet_in old d none) (outlet_in mid d none)
  by_place d none below (inl e) = subst (λ j. Is j (outlet_in old j none) (outlet_in mid j none)) (sym e) (here none)
  by_place d none below (inr ne) = h.done d none (omega (arith, below, ne))

-- the walk is over
pub walk_ends : (Is : ℕ → View → View → Type 0) (k : ℕ) (old new : Ribs) → k ≤ old.count → old.count ≤ k → IsWalked Is k old new → IsWalked Is old.count old new
walk_ends Is k old new most least h = subst (λ n. IsWalked Is n old new) (let e : k ≡ old.count = omega (arith, most, least) in e) h

-- ---- one outlet is set

pub default_same : (xs : List View) (i : ℕ) (a b : View) → i < length xs → slice_index_or xs i a ≡ slice_index_or xs i b
default_same [] i a b lt = absurd (omega (arith, lt))
default_same (x ∷ xs) zero a b lt = refl
default_same (x ∷ xs) (suc i) a b lt = default_same xs i a b (omega (arith, lt))

pub own_set : (c : ℕ) (Is : View → View → Type 0) (old new : Ribs) (v w : View) → c < old.count → new.outlets.items ≡ slice_set old.outlets.items c w → v ≡ slice_index_or old.outlets.items c v → Is v w → ChangesOwn c Is old new
own_set c Is old new v w lt set was so = let within : c < length old.outlets.items = subst (λ n. c < n) (sym old.outlets_len) lt in record {
  own = λ none below. subst (λ x. Is x (outlet_in new c none)) (was ∙ default_same old.outlets.items c v none within)
      (subst (λ x. Is v x) (sym (ap (λ xs. slice_index_or xs c none) set ∙ get_or-set_same old.outlets.items c w none within)) so);
  others = λ d none ne. ap (λ xs. slice_index_or xs d none) set ∙ get_or-set_other old.outlets.items c d w none ne;
}

-- ---- a step before that changes no outlet

pub own_from : (c : ℕ) (Is : View → View → Type 0) (old mid new : Ribs) → mid.count ≡ old.count → mid.outlets.items ≡ old.outlets.items → ChangesOwn c Is mid new → ChangesOwn c Is old new
own_from c Is old mid new count items h = record {
  own = λ none lt. subst (λ xs. Is (slice_index_or xs c none) (outlet_in new c none)) items (h.own none (subst (λ n. c < n) (sym count) lt));
  others = λ d none ne. h.others d none ne ∙ ap (λ xs. slice_index_or xs d none) items;
}

pub others_from : (c : ℕ) (Is : View → View → Type 0) (old mid new : Ribs) → mid.count ≡ old.count → mid.outlets.items ≡ old.outlets.items → ChangesOthers c Is mid new → ChangesOthers c Is old new
others_from c Is old mid new count items h = record {
  own = λ none. h.own none ∙ ap (λ xs. slice_index_or xs c none) items;
  others = λ d none lt ne. subst (λ xs. Is (slice_index_or xs d none) (outlet_in new d none)) items (h.others d none (subst (λ n. d < n) (sym count) lt) ne);
}

-- ---- a walk past client c

-- what the outlet of d is after it was touched, where it is not c's
pub record IsOtherThan (c : ℕ) (ins : AdjIns) (Is : View → View → Type 0) (d : ℕ) (v w : View) : Type 0 where
  pub own : d ≡ c → w ≡ v
  pub other : d ≢ c → AreNumbered v ins → Is v w × AreNumbered w ins

pub own_same : (c : ℕ) (ins : AdjIns) (Is : View → View → Type 0) (d : ℕ) (v : View) → d ≡ c → IsOtherThan c ins Is d v v
own_same c ins Is d v e = record { own = λ e. refl; other = λ ne h. absurd (ne e) }

pub other_touched : (c : ℕ) (ins : AdjIns) (Is : View → View → Type 0) (d : ℕ) (v w : View) → d ≢ c → (AreNumbered v ins → Is v w × AreNumbered w ins) → IsOtherThan c ins Is d v w
other_touched c ins Is d v w ne so = record { own = λ e. absurd (ne e); other = λ ne h. so h }

pub others_changed : (c : ℕ) (Is : View → View → Type 0) (old new : Ribs) → IsWalked (IsOtherThan c old.tables Is) old.count old new → IsNumbered old → ChangesOthers c Is old new
others_changed c Is old new h numbered = record {
  own = λ none. by_place none (cases_lt c old.count);
  others = λ d none lt ne. ((h.done d none lt).other ne (numbered.each d none lt)).0;
} where
  by_place : (none : View) → (c < old.count) ⊎ (old.count ≤ c) → outlet_in new c none ≡ outlet_in old c none
  by_place none (inl lt) = (h.done c none lt).own refl
  by_place none (inr le) = h.todo c none le

pub others_numbered : (c : ℕ) (Is : View → View → Type 0) (old new : Ribs) → IsWalked (IsOtherThan c old.tables Is) old.count old new → IsNumbered old → IsNumbered new
others_numbered c Is old new h numbered = record { each = λ d none lt. by_place d none (subst (λ n. d < n) h.settings.count lt) (equal_or d c) } where
  by_place : (d : ℕ) (none : View) → d < old.count → (d ≡ c) ⊎ (d ≢ c) → AreNumbered (outlet_in new d none) new.tables
  by_place d none lt (inl e) = subst (λ ins. AreNumbered (outlet_in new d none) ins) (sym h.tables) (subst (λ v. AreNumbered v old.tables) (sym ((h.done d none lt).own e)) (numbered.each d none lt))
  by_place d none lt (inr ne) = subst (λ ins. AreNumbered (outlet_in new d none) ins) (sym h.tables) ((h.done d none lt).other ne (numbered.each d none lt)).1

-- ---- a walk over all

pub all_changed : (Is : ℕ → View → View → Type 0) (old new : Ribs) → IsWalked Is old.count old new → ChangesAll Is old new
all_changed Is old new h = record { each = h.done }

pub all_numbered : (Is : ℕ → View → View → Type 0) (old new : Ribs) → IsWalked Is old.count old new → ((d : ℕ) (v w : View) → Is d v w → AreNumbered v old.tables → AreNumbered w old.tables) → IsNumbered old → IsNumbered new
all_numbered Is old new h so numbered = record {
  each = λ d none lt.
      let within : d < old.count = subst (λ n. d < n) h.settings.count lt in
      subst (λ ins. AreNumbered (outlet_in new d none) ins) (sym h.tables) (so d (outlet_in old d none) (outlet_in new d none) (h.done d none within) (numbered.each d none within));
}
