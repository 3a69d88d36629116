-- A search for a prefix among slots that rise by prefix.
use Rattle.std.proofs.Common.{◌≡◌, ◌≢◌, ◌<◌, ◌≤◌, ℕ, zero, suc, Bool, true, false, None, Some, List, [], ◌∷◌, length, get_or, nat_lt, refl, sym, ap, ◌∙◌, subst, arith}
use Rattle.std.specs.Prelude.{slice_get, ◌||◌}
use Rattle.std.specs.List.{AllByRecursion, IsDistinct, list_any}
use Rattle.std.specs.List.Sorted.{IsNonDecreasingBy, IsPartitionPoint, IsStrictlySortedBy}
use Rattle.std.specs.Ordering.{ordering_index}
use Rattle.std.specs.Cmp.{alike_right, tied_itself}
use Rattle.std.specs.declared.cmp.Ordering.{Ordering}
use Rattle.std.specs.declared.cmp.Ordering.TheVariants.{Less, Equal, Greater}
use Rattle.std.proofs.lemmas.Bool.{ltb-true, ltb-false}
use Rattle.std.proofs.lemmas.List.{length-map}
use Rattle.std.proofs.lemmas.Option.{slice_get_read, slice_get_within, same_Some}
use Rattle.rs_octets.specs.Prefixes.{Prefix, prefix_order}
use Rattle.rs_outlet.specs.declared.waiting.Wait.{Wait}
use Rattle.rs_outlet.specs.Pending.Slots.{IsOpenSlot, open_at, prefixes_at}
use Rattle.rs_adjin.proofs.Listed.{prefixes_total, exact_prefixes}
use Rattle.rs_outlet.proofs.Decided.LocByNumber.{same, same_is}
use Rattle.rs_outlet.proofs.Pending.Adding.{not_listed}
use Rattle.rs_outlet.proofs.Pending.Slots.{found_at, prefix_at, shut_here}

-- a prefix before another stands no later against a third
rises : (a b q : Prefix) → prefix_order a b ≡ Less → ordering_index (prefix_order a q) ≤ ordering_index (prefix_order b q)
rises a b q e = by_answer (prefix_order b q) refl
  where
    most : (r s : Ordering) → ordering_index s ≡ 2 → ordering_index r ≤ ordering_index s
    most Less s g = omega (arith, g)
    most Equal s g = omega (arith, g)
    most Greater s g = omega (arith, g)

    by_answer : (r : Ordering) → prefix_order b q ≡ r → ordering_index (prefix_order a q) ≤ ordering_index (prefix_order b q)
    by_answer Less f = omega (arith, ap ordering_index (prefixes_total.trans a b q e f))
    by_answer Equal f = omega (arith, ap ordering_index (sym (alike_right prefixes_total b q a f) ∙ e))
    by_answer Greater f = most (prefix_order a q) (prefix_order b q) (ap ordering_index f)

after_first : (p q : Prefix) (ws : List Wait) → AllByRecursion (λ x. prefix_order p x ≡ Less) (prefixes_at ws) → (j : ℕ) (d : Wait) → j < length ws
    → ordering_index (prefix_order p q) ≤ ordering_index (prefix_order (get_or ws j d).prefix q)
after_first p q [] above j d h = absurd (omega arith)
after_first p q (w ∷ ws) above zero d h = rises p w.prefix q above.0
after_first p q (w ∷ ws) above (suc j) d h = after_first p q ws above.1 j d (omega arith)

pub searchable : (q : Prefix) (ws : List Wait) → IsStrictlySortedBy prefix_order (prefixes_at ws) → IsNonDecreasingBy (λ w. ordering_index (prefix_order w.prefix q)) ws
unfolding IsStrictlySortedBy
searchable q [] up i j d h k = absurd (omega arith)
searchable q (w ∷ ws) up zero zero d h k = omega arith
searchable q (w ∷ ws) up zero (suc j) d h k = after_first w.prefix q ws up.0 j d (omega arith)
searchable q (w ∷ ws) up (suc i) zero d h k = absurd (omega arith)
searchable q (w ∷ ws) up (suc i) (suc j) d h k = searchable q ws up.1 i j d (omega arith) (omega arith)

apart : (q : Prefix) (w : Wait) → prefix_order w.prefix q ≢ Equal → same q w.prefix ≡ false
apart q w h =
    elim (same q w.prefix) as (λ b. same q w.prefix ≡ b → b ≡ false) [
      | true ↦ λ s. absurd (h (ap (prefix_order w.prefix) (same_is q w.prefix s) ∙ tied_itself prefixes_total w.prefix))
      | false ↦ λ _. refl
    ] refl

none_equal : (q : Prefix) (ws : List Wait) → ((k : ℕ) (d : Wait) → k < length ws → prefix_order (get_or ws k d).prefix q ≢ Equal) → list_any (same q) (prefixes_at ws) ≡ false
none_equal q [] h = refl
none_equal q (w ∷ ws) h = (λ i. apart q w (h 0 w (omega arith)) i || none_equal q ws (λ k d below. h (suc k) d (omega arith)) i)

-- between the slots before a prefix and those behind it there is none of it
pub absent_prefix : (q : Prefix) (ws : List Wait) (i : ℕ) → IsPartitionPoint (λ w. prefix_order w.prefix q ≡ Less) (λ w. prefix_order w.prefix q ≡ Greater) ws i → list_any (same q) (prefixes_at ws) ≡ false
absent_prefix q ws i parts = none_equal q ws (λ k d below is. by_side k d below is (nat_lt k i) refl)
  where
    by_side : (k : ℕ) (d : Wait) → k < length ws → prefix_order (get_or ws k d).prefix q ≡ Equal → (b : Bool) → nat_lt k i ≡ b → ⊥
    by_side k d below is true h = let no : Less ≡ Equal = sym (parts.0 k d (omega arith) (ltb-true k i h)) ∙ is in cc
    by_side k d below is false h = let no : Greater ≡ Equal = sym (parts.1 k d (ltb-false k i h) below) ∙ is in cc

pub absent_slot : (q : Prefix) (ws : List Wait) (i : ℕ) → IsPartitionPoint (λ w. prefix_order w.prefix q ≡ Less) (λ w. prefix_order w.prefix q ≡ Greater) ws i → open_at q ws ≡ None
absent_slot q ws i parts = not_listed q ws (absent_prefix q ws i parts)

pub there_prefix : (q : Prefix) (ws : List Wait) (i : ℕ) → i < length ws → ((d : Wait) → prefix_order (get_or ws i d).prefix q ≡ Equal) → slice_get (prefixes_at ws) i ≡ Some q
there_prefix q [] i below is = absurd (omega (arith, below))
there_prefix q (w ∷ ws) zero below is = ap (λ p. Some p) (exact_prefixes w.prefix q (is w))
there_prefix q (w ∷ ws) (suc i) below is = there_prefix q ws i (omega (arith, below)) is

module _ (q : Prefix) (ws : List Wait) (n : ℕ) (w : Wait) (distinct : IsDistinct same (prefixes_at ws)) (there : slice_get (prefixes_at ws) n ≡ Some q) (is : w ≡ get_or ws n w) where
  below : n < length ws
  below = omega (arith, slice_get_within (prefixes_at ws) n q there, length-map ws (λ (v : Wait). v.prefix))

  here : w.prefix ≡ q
  here = same_Some w.prefix q (sym (prefix_at ws n w below is) ∙ there)

  pub open_slot : w.open ≡ true → IsOpenSlot q ws n
  open_slot opened = record {
    wait = w;
    at = slice_get_read ws (length ws) n w refl below is;
    prefix = here;
    stands = subst (λ p. open_at p ws ≡ Some w) here (found_at ws n w below is opened distinct);
    within = below;
  }

  pub shut_slot : w.open ≡ false → open_at q ws ≡ None
  shut_slot shut = subst (λ p. open_at p ws ≡ None) here (shut_here ws n w below is shut distinct)
