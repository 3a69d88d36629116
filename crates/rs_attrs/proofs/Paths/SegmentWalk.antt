-- Numbers and segments, one at a time from their octets.
use Rattle.std.proofs.Common.{◌≡◌, ℕ, zero, suc, ◌+◌, ◌*◌, ◌/◌, ◌<◌, ◌≤◌, ◌==◌, Bool, true, false, cond, List, [], ◌∷◌, length, take, drop, get_or, Option, Some, None, refl, map, sym, ap, ◌∙◌, arith}
use Rattle.std.specs.Prelude.{nat_lt, nat_le, ◌&&◌}
use Rattle.std.specs.List.{last_or}
use Rattle.std.specs.Int.{w32, from_be_bytes}
use Rattle.std.proofs.lemmas.Bool.{leb-true, ltb-true}
use Rattle.std.proofs.lemmas.List.{length-take-le}
use Rattle.std.proofs.lemmas.List.Sums.{sum_by-cons}
use Rattle.std.specs.Cmp.{first_so, second_so}
use Rattle.rs_attrs.specs.Paths.{Segment, four_octets, is_set_or_sequence, begins_segment, with_front, segments_behind, or_none, quads, last_of, segment_length, path_length}
use Rattle.rs_attrs.specs.Writing.{path_in}

pub no_number : (octets : List ℕ) → length octets < 4 → quads octets ≡ []
no_number [] h = refl
no_number (a ∷ []) h = refl
no_number (a ∷ b ∷ []) h = refl
no_number (a ∷ b ∷ c ∷ []) h = refl
no_number (a ∷ b ∷ c ∷ d ∷ octets) h = absurd (omega arith)

pub number_front : (octets : List ℕ) → 4 ≤ length octets → quads octets ≡ from_be_bytes w32 (get_or octets 0 0 ∷ get_or octets 1 0 ∷ get_or octets 2 0 ∷ get_or octets 3 0 ∷ []) ∷ quads (drop 4 octets)
number_front [] h = absurd (omega arith)
number_front (a ∷ []) h = absurd (omega arith)
number_front (a ∷ b ∷ []) h = absurd (omega arith)
number_front (a ∷ b ∷ c ∷ []) h = absurd (omega arith)
number_front (a ∷ b ∷ c ∷ d ∷ octets) h = refl

pub length-quads : (octets : List ℕ) → length (quads octets) ≡ length octets / 4
length-quads [] = omega arith
length-quads (a ∷ []) = omega arith
length-quads (a ∷ b ∷ []) = omega arith
length-quads (a ∷ b ∷ c ∷ []) = omega arith
length-quads (a ∷ b ∷ c ∷ d ∷ octets) = omega (arith, length-quads octets)

-- ---- lengths

-- numbers that fit in n octets
numbers_within : (count : ℕ) (octets : List ℕ) → 4 * count ≤ length octets → length (quads (take (4 * count) octets)) ≡ count
numbers_within count octets h = length-quads (take (4 * count) octets) ∙ ap (λ n. n / 4) (length-take-le (4 * count) octets h) ∙ quarter count
  where
    quarter : (n : ℕ) → 4 * n / 4 ≡ n
    quarter n = omega arith

counted : (b : Bool) (count n : ℕ) → 0 < count → n ≡ count → cond b 1 n ≤ count
counted true count n h e = omega arith
counted false count n h e = omega arith

-- a path is no longer than its octets
path_within : (n : ℕ) (octets : List ℕ) → n ≤ length octets → path_length (or_none (segments_behind four_octets is_set_or_sequence n octets)) + n ≤ length octets
path_within zero [] h = omega arith
path_within (suc n) [] h = absurd (omega arith)
path_within (suc n) (octet ∷ octets) h = omega (arith, path_within n octets (omega arith))
path_within zero (kind ∷ []) h = omega arith
path_within zero (kind ∷ count ∷ octets) h = by_test (begins_segment four_octets is_set_or_sequence kind count octets) refl (λ fits. path_within (4 * count) octets fits)
  where
    longer : (s : Segment) (path : Option (List Segment)) → path_length (or_none (with_front s path)) ≤ segment_length s + path_length (or_none path)
    longer s None = omega arith
    longer s (Some path) = omega (arith, sum_by-cons segment_length s path)

    by_test : (b : Bool) → b ≡ begins_segment four_octets is_set_or_sequence kind count octets
        → (4 * count ≤ length octets → path_length (or_none (segments_behind four_octets is_set_or_sequence (4 * count) octets)) + 4 * count ≤ length octets)
        → path_length (or_none (cond b (with_front (record { kind = kind; numbers = quads (take (4 * count) octets) }) (segments_behind four_octets is_set_or_sequence (4 * count) octets)) None)) + 0 ≤ suc (suc (length octets))
    by_test false e more = omega arith
    by_test true e more =
        let s : Segment = record { kind = kind; numbers = quads (take (4 * count) octets) } in
        let fits : 4 * count ≤ length octets = leb-true (4 * count) (length octets) (second_so (is_set_or_sequence kind && nat_lt 0 count) (nat_le (4 * count) (length octets)) (sym e)) in
        let some : 0 < count =
        ltb-true 0 count (second_so (is_set_or_sequence kind) (nat_lt 0 count) (first_so (is_set_or_sequence kind && nat_lt 0 count) (nat_le (4 * count) (length octets)) (sym e))) in
        let here : segment_length s ≤ count = counted (kind == 1) count (length (quads (take (4 * count) octets))) some (numbers_within count octets fits) in
        omega (arith, here, more fits, longer s (segments_behind four_octets is_set_or_sequence (4 * count) octets))

pub path_length-bound : (octets : List ℕ) → path_length (path_in octets) ≤ length octets
path_length-bound octets = omega (arith, path_within 0 octets (omega arith))

-- ---- the last item

module _ {A : Type 0} where
  last_behind : (x : A) (xs : List A) → last_or (Some x) xs ≡ last_of (x ∷ xs)
  last_behind x [] = refl
  last_behind x (y ∷ xs) = last_behind y xs

  last_is : (xs : List A) → last_or None xs ≡ last_of xs
  last_is [] = refl
  last_is (x ∷ xs) = last_behind x xs

  same_items : (xs : List A) → map (λ x. x) xs ≡ xs
  same_items [] = refl
  same_items (x ∷ xs) = ap (λ ys. x ∷ ys) (same_items xs)

  -- the last of the items that an iterator gave
  pub last_of_drained : (xs ys : List A) → map (λ x. x) xs ≡ ys → last_or None xs ≡ last_of ys
  last_of_drained xs ys e = last_is xs ∙ ap last_of (sym (same_items xs) ∙ e)
