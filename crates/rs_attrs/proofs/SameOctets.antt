-- Two runs of octets, compared sixteen at a time.
use Rattle.std.proofs.Common.{◌≡◌, ◌↔◌, ◌+◌, ◌*◌, ◌≤◌, ◌%◌, ℕ, Bool, true, false, not, cond, eqb, nat_eq, IsTrue, List, [], ◌∷◌, ◌++◌, length, take, drop, refl, sym, ap, ap₂, ◌∙◌, arith, true≢false}
use Rattle.std.proofs.lemmas.Simd.{mask_l-mod, length-zip2}
use Rattle.std.proofs.lemmas.Bool.{eqb-true, eq-eqb}
use Rattle.std.proofs.lemmas.Bool.Decides.{same_from_decides}
use Rattle.std.proofs.lemmas.List.{take-take, drop-take, take_all, take-append-drop}
use Rattle.std.specs.Cmp.Lexicographic.{pointwise, bytes_decides}
use Rattle.std.specs.Simd.Lanes.{zip2, mask_l}

abbrev pub differ : ℕ → ℕ → Bool
differ a b = not (eqb a b)

first_same : (b : Bool) (rest : ℕ) → cond {A = ℕ} (not b) 1 0 + 2 * rest ≡ 0 → (b ≡ true) × (rest ≡ 0)
first_same true rest none = (refl, omega arith)
first_same false rest none = absurd (omega arith)

none_differs : (xs ys : List ℕ) → length xs ≡ length ys → mask_l (zip2 differ xs ys) ≡ 0 → xs ≡ ys
none_differs [] [] long none = refl
none_differs [] (y ∷ ys) long none = absurd (omega arith)
none_differs (x ∷ xs) [] long none = absurd (omega arith)
none_differs (x ∷ xs) (y ∷ ys) long none =
    let first = first_same (eqb x y) (mask_l (zip2 differ xs ys)) none in
    ap₂ (λ z zs. z ∷ zs) (eqb-true x y first.0) (none_differs xs ys (omega arith) first.1)

same_differs_nowhere : (xs : List ℕ) → mask_l (zip2 differ xs xs) ≡ 0
same_differs_nowhere [] = refl
same_differs_nowhere (x ∷ xs) = ap₂ (λ b n. cond {A = ℕ} (not b) 1 0 + 2 * n) (eq-eqb x x refl) (same_differs_nowhere xs)

twice : (b : Bool) → IsTrue (not (not b)) → b ≡ true
twice true t = refl
twice false t = absurd (true≢false (sym t))

zero_is : (n : ℕ) → n ≡ 0 → IsTrue (not (not (eqb n 0)))
zero_is n e = ap (λ m. not (not (eqb m 0))) e

-- that no lane of sixteen differs is that both runs are the same
pub sixteen_told : (xs ys : List ℕ) → length xs ≡ 16 → length ys ≡ 16 → IsTrue (not (not (eqb (mask_l (zip2 differ xs ys) % 18446744073709551616) 0))) ↔ (xs ≡ ys)
sixteen_told xs ys one other =
    let whole : mask_l (zip2 differ xs ys) % 18446744073709551616 ≡ mask_l (zip2 differ xs ys) = mask_l-mod (zip2 differ xs ys) 64 (omega (arith, length-zip2 differ xs ys (one ∙ sym other))) in (
      (λ t. none_differs xs ys (one ∙ sym other) (sym whole ∙ eqb-true _ 0 (twice _ t))),
      (λ same. zero_is _ (whole ∙ ap (λ zs. mask_l (zip2 differ xs zs)) (sym same) ∙ same_differs_nowhere xs)),
    )

-- the front of a list, and what follows it
take_split : (n m : ℕ) (xs : List ℕ) → take (n + m) xs ≡ take n xs ++ take m (drop n xs)
take_split n m xs =
    sym (take-append-drop n (take (n + m) xs)) ∙ ap₂ (λ ys zs. ys ++ zs) (take-take n (n + m) xs (omega arith)) (drop-take n m xs)

pub front_grows : (n : ℕ) (xs ys : List ℕ) → take n xs ≡ take n ys → take 16 (drop n xs) ≡ take 16 (drop n ys) → take (n + 16) xs ≡ take (n + 16) ys
front_grows n xs ys front next = take_split n 16 xs ∙ ap₂ (λ us vs. us ++ vs) front next ∙ sym (take_split n 16 ys)

-- what is the same up to a place at the last sixteen or behind it, and in these, is the same
whole_same : (n last : ℕ) (xs ys : List ℕ) → last + 16 ≡ length xs → length xs ≡ length ys → last ≤ n → take n xs ≡ take n ys → take 16 (drop last xs) ≡ take 16 (drop last ys) → xs ≡ ys
whole_same n last xs ys at_end long far front end =
    let before : take last xs ≡ take last ys = sym (take-take last n xs far) ∙ ap (take last) front ∙ take-take last n ys far in
    sym (take_all (last + 16) xs (omega arith)) ∙ front_grows last xs ys before end ∙ take_all (last + 16) ys (omega arith)

pub same_told : (b : Bool) (n last : ℕ) (xs ys : List ℕ) → last + 16 ≡ length xs → length xs ≡ length ys → last ≤ n → take n xs ≡ take n ys
    → (IsTrue b ↔ (take 16 (drop last xs) ≡ take 16 (drop last ys))) → b ≡ pointwise nat_eq xs ys
same_told b n last xs ys at_end long far front told =
    same_from_decides b (pointwise nat_eq xs ys)
    ((λ t. whole_same n last xs ys at_end long far front (told.0 t)), (λ same. told.1 (ap (λ zs. take 16 (drop last zs)) same)))
    (bytes_decides xs ys)

-- what differs at sixteen octets differs
pub other_told : (b : Bool) (n : ℕ) (xs ys : List ℕ) → b ≡ false → (IsTrue b ↔ (take 16 (drop n xs) ≡ take 16 (drop n ys))) → false ≡ pointwise nat_eq xs ys
other_told b n xs ys not_so told =
    same_from_decides false (pointwise nat_eq xs ys)
    ((λ t. absurd (true≢false (sym t))), (λ same. sym not_so ∙ told.1 (ap (λ zs. take 16 (drop n zs)) same)))
    (bytes_decides xs ys)
