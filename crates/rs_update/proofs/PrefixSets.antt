-- Lists of prefixes as sets.
use Rattle.std.proofs.Common.{◌≡◌, ℕ, zero, suc, ◌<◌, ◌≤◌, ◌&&◌, Bool, true, false, List, [], ◌∷◌, length, refl, sym, ap, ◌∙◌, subst, arith, nat_lt}
use Rattle.std.specs.Prelude.{Contains, Result, Ok, Err, is_ok}
use Rattle.std.specs.List.{slice_index_or, dedup, AllByRecursion}
use Rattle.std.specs.List.Sorted.{IsPermutation, IsStrictlySortedBy, IsBinarySearchResult, IsSearchInRange}
use Rattle.std.specs.declared.cmp.Ordering.TheVariants.{Less, Equal, Greater}
use Rattle.std.specs.declared.cmp.Ordering.{Ordering}
use Rattle.std.specs.Ordering.{on, nat_cmp, ordering_index, is_eq, eq_by_cmp}
use Rattle.std.specs.Cmp.{IsTotalOrder, IsEquivalence, nat_cmp_total, unsigned_ties, tied_then, then_total, on_total, eq_by_cmp_equiv, tied_itself, tied_back, alike_right}
use Rattle.std.proofs.lemmas.Bool.{ltb-true, ltb-false}
use Rattle.std.proofs.lemmas.Bool.Decides.{same_from_decides}
use Rattle.std.proofs.lemmas.Map.Views.{list_any-from_Contains, Contains-from_any}
use Rattle.std.proofs.lemmas.List.Kept.{Contains-dedup, Contains-from_dedup}
use Rattle.std.proofs.lemmas.List.Sorted.{Contains-permutation, IsPermutation-sym}
use Rattle.std.proofs.lemmas.List.Folds.{list_any_at}
use Rattle.rs_octets.specs.Prefixes.{Prefix, prefix_order}
use Rattle.rs_attrs.specs.Effects.{same_prefix, has_prefix}
use Rattle.rs_attrs.proofs.EachOnce.{same_is}

pub same_ties : (p q : Prefix) → same_prefix p q ≡ eq_by_cmp prefix_order p q
same_ties p q = (λ i. unsigned_ties p.bits q.bits i && unsigned_ties p.len q.len i) ∙ tied_then (nat_cmp p.bits q.bits) (nat_cmp p.len q.len)

pub prefix_total : IsTotalOrder prefix_order
prefix_total = then_total {R = on (λ (p : Prefix). p.bits) nat_cmp} {S = on (λ (p : Prefix). p.len) nat_cmp} (on_total (λ (p : Prefix). p.bits) nat_cmp_total) (on_total (λ (p : Prefix). p.len) nat_cmp_total)

pub same_equiv : IsEquivalence same_prefix
same_equiv =
    let same : eq_by_cmp prefix_order ≡ same_prefix = λ i. λ p q. sym (same_ties p q) i in
    subst (λ (e : Prefix → Prefix → Bool). IsEquivalence e) same (eq_by_cmp_equiv prefix_total)

pub member_has : (p : Prefix) (ps : List Prefix) → Contains ps p → has_prefix p ps ≡ true
member_has p ps m = list_any-from_Contains same_equiv p ps m

pub has_member : (p : Prefix) (ps : List Prefix) → has_prefix p ps ≡ true → Contains ps p
has_member p ps e = Contains-from_any same_is p ps e

-- lists with the same members are the same set
pub same_set : (p : Prefix) (ps qs : List Prefix) → (Contains ps p → Contains qs p) → (Contains qs p → Contains ps p) → has_prefix p qs ≡ has_prefix p ps
same_set p ps qs f g =
    same_from_decides {P = Contains ps p} (has_prefix p qs) (has_prefix p ps) (λ e. g (has_member p qs e), λ m. member_has p qs (f m)) (has_member p ps, member_has p ps)

pub permuted : (p : Prefix) (ps qs : List Prefix) → IsPermutation ps qs → has_prefix p qs ≡ has_prefix p ps
permuted p ps qs f = same_set p ps qs (Contains-permutation ps qs p f) (Contains-permutation qs ps p (IsPermutation-sym ps qs f))

pub deduped : (p : Prefix) (ps : List Prefix) → has_prefix p (dedup same_prefix ps) ≡ has_prefix p ps
deduped p ps = same_set p ps (dedup same_prefix ps) (Contains-dedup same_equiv same_is ps p) (Contains-from_dedup same_prefix ps p)

-- ---- a search in a list in rising order

-- an element before another stands no later against a third
rises : (a b x : Prefix) → prefix_order a b ≡ Less → ordering_index (prefix_order a x) ≤ ordering_index (prefix_order b x)
rises a b x e = by_answer (prefix_order b x) refl
  where
    by_answer : (r : Ordering) → prefix_order b x ≡ r → ordering_index (prefix_order a x) ≤ ordering_index (prefix_order b x)
    by_answer Less f =
        let low : prefix_order a x ≡ Less = prefix_total.trans a b x e f in
        omega (arith, ap ordering_index low)
    by_answer Equal f =
        let low : prefix_order a x ≡ Less = sym (alike_right prefix_total b x a f) ∙ e in
        omega (arith, ap ordering_index low)
    by_answer Greater f = most (prefix_order a x) (ap ordering_index f)
      where
        most : (r : Ordering) → ordering_index (prefix_order b x) ≡ 2 → ordering_index r ≤ ordering_index (prefix_order b x)
        most Less g = omega (arith, g)
        most Equal g = omega (arith, g)
        most Greater g = omega (arith, g)

after_first : (a x : Prefix) (ps : List Prefix) → AllByRecursion (λ b. prefix_order a b ≡ Less) ps → (j : ℕ) (d : Prefix) → j < length ps
    → ordering_index (prefix_order a x) ≤ ordering_index (prefix_order (slice_index_or ps j d) x)
after_first a x [] above j d h = absurd (omega arith)
after_first a x (b ∷ ps) above zero d h = rises a b x above.0
after_first a x (b ∷ ps) above (suc j) d h = after_first a x ps above.1 j d (omega arith)

-- in rising order the answers of a search rise
searchable : (x : Prefix) (ps : List Prefix) → IsStrictlySortedBy prefix_order ps → (i j : ℕ) (d : Prefix) → i ≤ j → j < length ps
    → ordering_index (prefix_order (slice_index_or ps i d) x) ≤ ordering_index (prefix_order (slice_index_or ps j d) x)
unfolding IsStrictlySortedBy
searchable x [] sorted i j d h k = absurd (omega arith)
searchable x (a ∷ ps) sorted zero zero d h k = omega arith
searchable x (a ∷ ps) sorted zero (suc j) d h k = after_first a x ps sorted.0 j d (omega arith)
searchable x (a ∷ ps) sorted (suc i) zero d h k = absurd (omega arith)
searchable x (a ∷ ps) sorted (suc i) (suc j) d h k = searchable x ps sorted.1 i j d (omega arith) (omega arith)

pub searched : (x : Prefix) (ps : List Prefix) (r : Result ℕ ℕ) → IsStrictlySortedBy prefix_order ps → IsSearchInRange r (length ps) → IsBinarySearchResult (λ y. prefix_order y x) ps r → is_ok r ≡ has_prefix x ps
searched x ps (Ok k) sorted range found =
    let equal : prefix_order x (slice_index_or ps k x) ≡ Equal = tied_back prefix_total (slice_index_or ps k x) x (found x) in
    sym (list_any_at (same_prefix x) ps k x range (same_ties x (slice_index_or ps k x) ∙ ap is_eq equal))
searched x ps (Err i) sorted range found = by_answer (has_prefix x ps) refl
  where
    by_answer : (b : Bool) → has_prefix x ps ≡ b → false ≡ b
    by_answer true e =
        let m = has_member x ps e in
        let point = found (searchable x ps sorted) in
        let itself : prefix_order (slice_index_or ps m.0 x) x ≡ Equal = ap (λ (y : Prefix). prefix_order y x) m.2 ∙ tied_itself prefix_total x in
        by_side (nat_lt m.0 i) m.0 (λ h. point.0 m.0 x (omega arith) (ltb-true m.0 i h)) (λ h. point.1 m.0 x (ltb-false m.0 i h) m.1) itself refl
      where
        by_side : (b : Bool) (k : ℕ) → (nat_lt k i ≡ true → prefix_order (slice_index_or ps k x) x ≡ Less) → (nat_lt k i ≡ false → prefix_order (slice_index_or ps k x) x ≡ Greater)
            → prefix_order (slice_index_or ps k x) x ≡ Equal → nat_lt k i ≡ b → false ≡ true
        by_side true k less greater itself h = let no : Less ≡ Equal = sym (less h) ∙ itself in absurd cc
        by_side false k less greater itself h = let no : Greater ≡ Equal = sym (greater h) ∙ itself in absurd cc
    by_answer false e = refl
