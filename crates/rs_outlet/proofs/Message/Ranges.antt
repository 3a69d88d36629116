-- Parts of a row of octets.
use Rattle.std.proofs.Common.{◌≡◌, ℕ, zero, suc, ◌≤◌, ◌+◌, ◌-◌, List, [], ◌∷◌, length, take, drop, slice_range, refl, sym, ap, ◌∙◌, arith}
use Rattle.std.proofs.lemmas.List.{drop-take, drop-drop, length-take, length-drop}

-- a part of a message behind its first octets
pub later_range : (xs : List ℕ) (i j n : ℕ) → n ≤ j - i → slice_range xs (i + n) j ≡ drop n (slice_range xs i j)
later_range xs i j n h =
    let m : ℕ = j - (i + n) in
    let e : j - i ≡ n + m = omega arith in
    ap (take m) (sym (drop-drop n i xs)) ∙ sym (drop-take n m (drop i xs)) ∙ ap (λ k. drop n (take k (drop i xs))) (sym e)

pub length_range : (xs : List ℕ) (i j : ℕ) → length (slice_range xs i j) ≤ j - i
length_range xs i j = omega (arith, length-take (j - i) (drop i xs))

pub empty_range : (xs : List ℕ) (i j : ℕ) → j ≤ i → slice_range xs i j ≡ []
empty_range xs i j h = let e : j - i ≡ 0 = omega arith in ap (λ k. take k (drop i xs)) e

sub-zero : (n : ℕ) → n - 0 ≡ n
sub-zero n = omega arith

pub from_start : (xs : List ℕ) (n : ℕ) → slice_range xs 0 n ≡ take n xs
from_start xs n = ap (λ k. take k xs) (sub-zero n)

take_whole : {X : Type 0} (xs : List X) → take (length xs) xs ≡ xs
take_whole [] = refl
take_whole (x ∷ xs) = ap (λ ys. x ∷ ys) (take_whole xs)

take_nil : {X : Type 0} (n : ℕ) → ◌≡◌ {A = List X} (take n []) []
take_nil zero = refl
take_nil (suc n) = refl

-- what stands from a slot on
pub take_rest : {X : Type 0} (k : ℕ) (xs : List X) → take (length xs - k) (drop k xs) ≡ drop k xs
take_rest zero xs = ap (λ n. take n xs) (sub-zero (length xs)) ∙ take_whole xs
take_rest (suc k) [] = take_nil (0 - suc k)
take_rest (suc k) (x ∷ xs) =
    let e : suc (length xs) - suc k ≡ length xs - k = omega arith in
    ap (λ n. take n (drop k xs)) e ∙ take_rest k xs

pub not_in_flight : (xs : List ℕ) (i j : ℕ) → j ≤ length xs → slice_range xs i j ≡ [] → j ≤ i
not_in_flight xs i j within e = omega (arith, ap length e, length-take (j - i) (drop i xs), length-drop i xs, within)

pub drop_all : {X : Type 0} (n : ℕ) (xs : List X) → length xs ≤ n → drop n xs ≡ []
drop_all zero [] h = refl
drop_all zero (x ∷ xs) h = absurd (omega (arith, h))
drop_all (suc n) [] h = refl
drop_all (suc n) (x ∷ xs) h = drop_all n xs (omega (arith, h))
