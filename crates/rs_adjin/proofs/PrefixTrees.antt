-- Trees of prefixes: made, written at one prefix, and walked through one behind the other.
use Rattle.std.proofs.Common.{Bool, false, cond, ◌≡◌, ◌≢◌, ◌+◌, ◌++◌, ℕ, zero, suc, List, [], ◌∷◌, length, refl, sym, ◌∙◌, ap, subst, arith, inl, inr}
use Rattle.std.specs.Prelude.{Option, Some, All, slice_get, slice_set}
use Rattle.std.specs.List.Sorted.{IsStrictlySortedBy}
use Rattle.std.specs.Map.{keys_of, lookup, remove_entry}
use Rattle.std.specs.BTreeMap.{IsOrdered, insert_entry, get, is_at}
use Rattle.std.proofs.lemmas.Bool.{cases_eq}
use Rattle.std.proofs.lemmas.Option.{same_Some}
use Rattle.std.proofs.lemmas.List.Elements.{All-nil}
use Rattle.std.proofs.lemmas.Map.Views.{All-keys-insert_entry, All-map-remove_entry}
use Rattle.rs_octets.specs.Prefixes.{Prefix, prefix_order}
use Rattle.rs_adjin.specs.PrefixTrees.{Tree, place_for, number_within, number_among, IsTreeAt, AreInPlace}
use Rattle.rs_adjin.proofs.TableRows.{prefix_is, set_here, set_apart}

-- ---- trees at their places

-- trees for the places from the n-th on
abbrev pub AreTreesFrom : ℕ → List Tree → Type 0
AreTreesFrom n [] = Unit {0}
AreTreesFrom n (t ∷ trees) = IsTreeAt n t × AreTreesFrom (suc n) trees

trees_from : (k : ℕ) (trees : List Tree) → ((n m : ℕ) (t : Tree) → slice_get trees n ≡ Some t → m ≡ k + n → IsTreeAt m t) → AreTreesFrom k trees
trees_from k [] h = tt
trees_from k (x ∷ xs) h = (h 0 k x refl (omega arith), trees_from (suc k) xs (λ n m t read e. h (suc n) m t read (omega (arith, e))))

pub all_in_place : (trees : List Tree) → AreInPlace trees → AreTreesFrom 0 trees
all_in_place trees h = trees_from 0 trees (λ n m t read e. let same : n ≡ m = omega (arith, e) in subst (λ i. IsTreeAt i t) same (h n t read))

pub tree_at : (k : ℕ) (trees : List Tree) (n m : ℕ) (t : Tree) → AreTreesFrom k trees → slice_get trees n ≡ Some t → m ≡ k + n → IsTreeAt m t
tree_at k [] n m t h read e = absurd (cc)
tree_at k (x ∷ xs) zero m t h read e = let same : k ≡ m = omega (arith, e) in subst (λ i. IsTreeAt i t) same (subst (IsTreeAt k) (same_Some x t read) h.0)
tree_at k (x ∷ xs) (suc n) m t h read e = tree_at (suc k) xs n m t h.1 read (omega (arith, e))

pub put_at : (k : ℕ) (trees : List Tree) (n m : ℕ) (t : Tree) → AreTreesFrom k trees → m ≡ k + n → IsTreeAt m t → AreTreesFrom k (slice_set trees n t)
put_at k [] n m t h e at = tt
put_at k (x ∷ xs) zero m t h e at = let same : m ≡ k = omega (arith, e) in (subst (λ i. IsTreeAt i t) same at, h.1)
put_at k (x ∷ xs) (suc n) m t h e at = (h.0, put_at (suc k) xs n m t h.1 (omega (arith, e)) at)

pub push_at : (k : ℕ) (trees : List Tree) (t : Tree) → AreTreesFrom k trees → IsTreeAt (k + length trees) t → AreTreesFrom k (trees ++ t ∷ [])
push_at k [] t h at = let same : k + 0 ≡ k = omega arith in (subst (λ i. IsTreeAt i t) same at, tt)
push_at k (x ∷ xs) t h at = let same : k + length (x ∷ xs) ≡ suc k + length xs = omega arith in (h.0, push_at (suc k) xs t h.1 (subst (λ i. IsTreeAt i t) same at))

pub in_place : (trees : List Tree) → AreTreesFrom 0 trees → AreInPlace trees
in_place trees h n t read = tree_at 0 trees n n t h read (omega arith)

-- one of them is another now
pub put_in_place : (trees : List Tree) (n : ℕ) (t : Tree) → AreInPlace trees → IsTreeAt n t → AreInPlace (slice_set trees n t)
put_in_place trees n t h at = in_place (slice_set trees n t) (put_at 0 trees n n t (all_in_place trees h) (omega arith) at)

-- ---- a tree made, written and left

pub empty_at : (n : ℕ) (t : Tree) → t.entries ≡ [] → IsOrdered prefix_order t → IsTreeAt n t
empty_at n t empty ordered = record { rising = ordered; placed = subst (λ es. All (λ p. place_for p ≡ n) (keys_of es)) (sym empty) (All-nil (λ p. place_for p ≡ n)) }

module _ (n : ℕ) (old new : Tree) (at : IsTreeAt n old) where
  pub given_at : (p : Prefix) (w : ℕ) → place_for p ≡ n → new.entries ≡ insert_entry prefix_order old.entries p w → IsOrdered prefix_order new → IsTreeAt n new
  given_at p w place is ordered = record {
    rising = ordered;
    placed = subst (λ es. All (λ q. place_for q ≡ n) (keys_of es)) (sym is) (All-keys-insert_entry prefix_order p w (λ q. place_for q ≡ n) old.entries at.placed place);
  }

  pub gone_at : (test : Prefix → Bool) → new.entries ≡ remove_entry test old.entries → IsOrdered prefix_order new → IsTreeAt n new
  gone_at test is ordered = record {
    rising = ordered;
    placed = subst (λ es. All (λ q. place_for q ≡ n) (keys_of es)) (sym is) (All-map-remove_entry test (λ e. e.0) (λ q. place_for q ≡ n) old.entries at.placed);
  }

  pub left_at : new.entries ≡ old.entries → IsTreeAt n new
  left_at is = record {
    rising = subst (λ es. IsStrictlySortedBy prefix_order (keys_of es)) (sym is) at.rising;
    placed = subst (λ es. All (λ q. place_for q ≡ n) (keys_of es)) (sym is) at.placed;
  }

-- ---- what numbers there are then

pub push_empty : (trees : List Tree) (t : Tree) (n : ℕ) (p : Prefix) → t.entries ≡ [] → number_within (slice_get (trees ++ t ∷ []) n) p ≡ number_within (slice_get trees n) p
push_empty [] t zero p empty = ap (lookup (is_at (prefix_order p))) empty
push_empty [] t (suc n) p empty = refl
push_empty (x ∷ trees) t zero p empty = refl
push_empty (x ∷ trees) t (suc n) p empty = push_empty trees t n p empty

module _ (trees : List Tree) (n : ℕ) (old new : Tree) (p : Prefix) (place : n ≡ place_for p) (read : slice_get trees n ≡ Some old) where
  pub found_among : get prefix_order old p ≡ number_among trees p
  found_among = ap (λ t. number_within t p) (sym read ∙ ap (slice_get trees) place)

  pub given_in_place : AreInPlace trees → (w : ℕ) → new.entries ≡ insert_entry prefix_order old.entries p w → IsOrdered prefix_order new → AreInPlace (slice_set trees n new)
  given_in_place h w is ordered = put_in_place trees n new h (given_at n old new (h n old read) p w (sym place) is ordered)

  pub gone_in_place : AreInPlace trees → (test : Prefix → Bool) → new.entries ≡ remove_entry test old.entries → IsOrdered prefix_order new → AreInPlace (slice_set trees n new)
  gone_in_place h test is ordered = put_in_place trees n new h (gone_at n old new (h n old read) test is ordered)

  pub left_in_place : AreInPlace trees → new.entries ≡ old.entries → AreInPlace (slice_set trees n new)
  left_in_place h is = put_in_place trees n new h (left_at n old new (h n old read) is)

  there : (q : Prefix) → place_for q ≡ n → number_among (slice_set trees n new) q ≡ get prefix_order new q
  there q e = ap (λ t. number_within t q) (ap (slice_get (slice_set trees n new)) e ∙ set_here trees n new old read)

  there_before : (q : Prefix) → place_for q ≡ n → get prefix_order old q ≡ number_among trees q
  there_before q e = ap (λ t. number_within t q) (sym read ∙ ap (slice_get trees) (sym e))

  elsewhere : (q : Prefix) → place_for q ≢ n → number_among (slice_set trees n new) q ≡ number_among trees q
  elsewhere q ne = ap (λ t. number_within t q) (set_apart trees n new (place_for q) ne)

  pub same_among : new.entries ≡ old.entries → (q : Prefix) → number_among (slice_set trees n new) q ≡ number_among trees q
  same_among same q = elim (cases_eq (place_for q) n) [
    | inl e ↦ there q e ∙ (ap (lookup (is_at (prefix_order q))) same ∙ there_before q e)
    | inr ne ↦ elsewhere q ne
  ]

  pub writes_among : (w : Option ℕ) → ((q : Prefix) → get prefix_order new q ≡ cond (is_at (prefix_order p) q) w (get prefix_order old q)) → (q : Prefix) → number_among (slice_set trees n new) q ≡ cond (is_at (prefix_order p) q) w (number_among trees q)
  writes_among w u q = elim (cases_eq (place_for q) n) [
    | inl e ↦ there q e ∙ (u q ∙ ap (λ o. cond (is_at (prefix_order p) q) w o) (there_before q e))
    | inr ne ↦ elsewhere q ne ∙ sym (ap (λ b. cond b w (number_among trees q)) (apart q ne))
  ]
    where
      apart : (q : Prefix) → place_for q ≢ n → is_at (prefix_order p) q ≡ false
      apart q ne = elim (prefix_is p q) [
        | inl e ↦ absurd (ne (ap place_for e ∙ sym place))
        | inr other ↦ other
      ]
