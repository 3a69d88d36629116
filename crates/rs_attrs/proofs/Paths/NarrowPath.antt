-- A path with AS numbers in two octets, written segment by segment.
use Rattle.std.proofs.Common.{◌≡◌, ℕ, suc, ◌+◌, ◌*◌, ◌<◌, ◌≤◌, true, List, [], ◌∷◌, ◌++◌, length, map, get_or, Option, Some, None, refl, sym, ap, subst, arith, length-append}
use Rattle.std.specs.Prelude.{is_some}
use Rattle.std.specs.List.{flat_map}
use Rattle.std.proofs.lemmas.List.{length-map}
use Rattle.rs_attrs.specs.Spellings.{AreOctets}
use Rattle.rs_attrs.specs.Paths.{Segment, two_octets, four_octets, is_set_or_sequence, number_octets, segment_octets, path_octets, IsPath, segments_of, or_none}
use Rattle.rs_attrs.specs.Table.{is_path}
use Rattle.rs_attrs.specs.Writing.{as_trans_or, narrowed_segment, path_in}
use Rattle.rs_attrs.specs.Parts.{narrow_path}
use Rattle.rs_attrs.proofs.Paths.PathLaws.{path_found, numbers_size}

pub flat_map-map : {A B : Type 0} (f : B → List ℕ) (g : A → B) (xs : List A) → flat_map f (map g xs) ≡ flat_map (λ x. f (g x)) xs
flat_map-map f g [] = refl
flat_map-map f g (x ∷ xs) = ap (λ rest. f (g x) ++ rest) (flat_map-map f g xs)

-- what is written of a number
abbrev pub narrow_number : ℕ → List ℕ
narrow_number n = number_octets two_octets (as_trans_or n)

-- what is written of a segment
abbrev pub narrow_segment : Segment → List ℕ
narrow_segment s = segment_octets two_octets (narrowed_segment s)

pub segment_parts : (s : Segment) → narrow_segment s ≡ s.kind ∷ length s.numbers ∷ flat_map narrow_number s.numbers
segment_parts s = λ i. s.kind ∷ length-map s.numbers as_trans_or i ∷ flat_map-map (number_octets two_octets) as_trans_or s.numbers i

pub path_parts : (value : List ℕ) → narrow_path value ≡ flat_map narrow_segment (path_in value)
path_parts value = flat_map-map (segment_octets two_octets) narrowed_segment (path_in value)

pub numbers_length : (ns : List ℕ) → length (flat_map narrow_number ns) ≡ 2 * length ns
numbers_length [] = refl
numbers_length (n ∷ ns) = let more = numbers_length ns in omega arith

pub segment_length_is : (s : Segment) → length (narrow_segment s) ≡ 2 + 2 * length s.numbers
segment_length_is s = omega (arith, ap length (segment_parts s), numbers_length s.numbers)

pub are_octets : (octets : List ℕ) → ((i : ℕ) → get_or octets i 0 < 256) → AreOctets octets
are_octets [] fits = tt
are_octets (o ∷ octets) fits = (fits 0, are_octets octets (λ i. fits (suc i)))

-- a well-formed path is the path that its octets spell
pub path_of_octets : (value : List ℕ) → ((i : ℕ) → get_or value i 0 < 256) → is_path four_octets value ≡ true → IsPath four_octets is_set_or_sequence value (path_in value)
path_of_octets value fits is = by_path (segments_of four_octets is_set_or_sequence value) refl is
  where
    by_path : (r : Option (List Segment)) → segments_of four_octets is_set_or_sequence value ≡ r → is_some r ≡ true → IsPath four_octets is_set_or_sequence value (or_none (segments_of four_octets is_set_or_sequence value))
    by_path None e some = absurd cc
    by_path (Some path) e some =
        subst (λ (r : Option (List Segment)). IsPath four_octets is_set_or_sequence value (or_none r)) (sym e) (path_found four_octets is_set_or_sequence value path (are_octets value fits) e)

segments_shorter : (path : List Segment) → length (flat_map narrow_segment path) ≤ length (path_octets four_octets path)
segments_shorter [] = omega arith
segments_shorter (s ∷ path) =
    let narrow = length-append (narrow_segment s) (flat_map narrow_segment path) in
    let wide = length-append (segment_octets four_octets s) (path_octets four_octets path) in
    omega (arith, narrow, wide, segment_length_is s, numbers_size four_octets s.numbers, segments_shorter path)

-- it is no longer than it was
pub narrow_shorter : (value : List ℕ) → ((i : ℕ) → get_or value i 0 < 256) → is_path four_octets value ≡ true → length (narrow_path value) ≤ length value
narrow_shorter value fits is =
    omega (arith, ap length (path_parts value), ap length (path_of_octets value fits is).whole, segments_shorter (path_in value))
