-- Where the first that passes a test stands.
use Rattle.std.proofs.Common.{◌≡◌, ◌∙◌, ◌<◌, ◌≤◌, ◌⊎◌, inl, inr, refl, sym, ap, ℕ, Bool, true, false, List, Option, Some, None, length, get_or, arith}
use Rattle.std.specs.Prelude.{find, position, option_map, nat_lt, slice_get, if◌then◌else◌}
use Rattle.std.specs.List.{position_or_len}
use Rattle.std.proofs.lemmas.Bool.Decides.{nat_tests}
use Rattle.std.proofs.lemmas.List.Folds.{find_at}
use Rattle.std.proofs.lemmas.Option.{slice_get-get_or, slice_get_cases}

-- the first that passes stands at the place that is found
pub placed : {X : Type 0} (test : X → Bool) (xs : List X) (d : X) (r : Option ℕ) → r ≡ position test xs → option_map (λ i. get_or xs i d) r ≡ find test xs
placed {X} test xs d r e = ap (option_map (λ i. get_or xs i d)) e ∙ split (nat_lt place (length xs)) refl ∙ sym (find_at test xs)
  where
    place : ℕ
    place = position_or_len test xs

    past : (i : ℕ) → length xs ≤ i → None ≡ slice_get xs i
    past i high = one (slice_get_cases xs i).1
      where
        one : ((x : X) × (i < length xs) × (slice_get xs i ≡ Some x) × (get_or xs i x ≡ x)) ⊎ ((length xs ≤ i) × (slice_get xs i ≡ None)) → None ≡ slice_get xs i
        one (inl found) = let low : i < length xs = found.1 in absurd (omega arith)
        one (inr none) = sym none.1

    split : (b : Bool) → nat_lt place (length xs) ≡ b → option_map (λ i. get_or xs i d) (if b then Some place else None) ≡ slice_get xs place
    split true h = let low : place < length xs = grind (arith, nat_tests) in sym (slice_get-get_or xs place d low)
    split false h = let high : length xs ≤ place = grind (arith, nat_tests) in past place high
