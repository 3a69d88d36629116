-- A path of a two-octet peer, once merged, is one of a four-octet peer.
use Rattle.std.proofs.Common.{◌≡◌, ℕ, zero, suc, ◌-◌, ◌^◌, ◌<◌, ◌||◌, Bool, true, false, cond, List, [], ◌∷◌, ◌++◌, length, take, refl, arith, nat_eq}
use Rattle.std.specs.Prelude.{nat_lt, nat_le}
use Rattle.std.specs.List.{flat_map, AllByRecursion}
use Rattle.std.specs.Int.{w32, to_be_bytes}
use Rattle.std.proofs.lemmas.Bool.{eqb-true, leb-false}
use Rattle.std.proofs.lemmas.List.{length-take-le}
use Rattle.rs_attrs.specs.Spellings.{AreOctets}
use Rattle.rs_attrs.specs.Paths.{Segment, two_octets, four_octets, number_octets, path_octets, is_set_or_sequence, is_any_segment, IsSegment, segment_length, path_length, leading}
use Rattle.rs_attrs.specs.Meaning.{merged_with}
use Rattle.rs_attrs.specs.Merging.{plain}

-- ---- the segments

abbrev pub IsFour : Segment → Type 0
IsFour s = IsSegment four_octets is_set_or_sequence s

numbers_four : (ns : List ℕ) → AllByRecursion (λ n. n < 256 ^ 2) ns → AllByRecursion (λ n. n < 256 ^ 4) ns
numbers_four [] fit = tt
numbers_four (n ∷ ns) fit = (omega (arith, fit.0), numbers_four ns fit.1)

pub fours : (path : List Segment) → AllByRecursion (IsSegment two_octets is_set_or_sequence) path → AllByRecursion IsFour path
fours [] each = tt
fours (s ∷ path) each = (record { kind = each.0.kind; some = each.0.some; most = each.0.most; numbers = numbers_four s.numbers each.0.numbers }, fours path each.1)

pub plain_fours : (path : List Segment) → AllByRecursion (IsSegment four_octets is_any_segment) path → AllByRecursion IsFour (plain path)
plain_fours [] each = tt
plain_fours (s ∷ path) each = by_test (is_set_or_sequence s.kind) refl (plain_fours path each.1)
  where
    by_test : (b : Bool) → is_set_or_sequence s.kind ≡ b → AllByRecursion IsFour (plain path) → AllByRecursion IsFour (cond b (s ∷ plain path) (plain path))
    by_test true e later = (record { kind = e; some = each.0.some; most = each.0.most; numbers = each.0.numbers }, later)
    by_test false e later = later

numbers_taken : (n : ℕ) (ns : List ℕ) → AllByRecursion (λ n. n < 256 ^ 4) ns → AllByRecursion (λ n. n < 256 ^ 4) (take n ns)
numbers_taken zero ns fit = tt
numbers_taken (suc n) [] fit = tt
numbers_taken (suc n) (x ∷ ns) fit = (fit.0, numbers_taken n ns fit.1)

leading_fours : (path : List Segment) (n : ℕ) → AllByRecursion IsFour path → AllByRecursion IsFour (leading n path)
leading_fours [] n each = tt
leading_fours (s ∷ path) zero each = tt
leading_fours (s ∷ path) (suc n) each = by_test (nat_le (segment_length s) (suc n)) refl (leading_fours path (suc n - segment_length s) each.1)
  where
    by_test : (b : Bool) → nat_le (segment_length s) (suc n) ≡ b → AllByRecursion IsFour (leading (suc n - segment_length s) path)
        → AllByRecursion IsFour (cond b (s ∷ leading (suc n - segment_length s) path) (record { kind = s.kind; numbers = take (suc n) s.numbers } ∷ []))
    by_test true e later = (each.0, later)
    by_test false e later =
        let cut : suc n < length s.numbers = shorter (nat_eq s.kind 1) (leb-false (segment_length s) (suc n) e) in
        let count : length (take (suc n) s.numbers) ≡ suc n = length-take-le (suc n) s.numbers (omega arith) in
        (record { kind = each.0.kind; some = omega arith; most = omega (arith, each.0.most); numbers = numbers_taken (suc n) s.numbers each.0.numbers }, tt)
      where
        shorter : (b : Bool) → suc n < cond b 1 (length s.numbers) → suc n < length s.numbers
        shorter true h = absurd (omega arith)
        shorter false h = h

append_fours : (path more : List Segment) → AllByRecursion IsFour path → AllByRecursion IsFour more → AllByRecursion IsFour (path ++ more)
append_fours [] more each others = others
append_fours (s ∷ path) more each others = (each.0, append_fours path more each.1 others)

pub merged_fours : (path as4 : List Segment) → AllByRecursion IsFour path → AllByRecursion IsFour as4 → AllByRecursion IsFour (merged_with path as4)
merged_fours path as4 each others = by_test (nat_lt (path_length path) (path_length as4))
  where
    by_test : (b : Bool) → AllByRecursion IsFour (cond b path (leading (path_length path - path_length as4) path ++ as4))
    by_test true = each
    by_test false = append_fours (leading (path_length path - path_length as4) path) as4 (leading_fours path (path_length path - path_length as4) each) others

-- ---- their octets

bytes_append : (xs ys : List ℕ) → AreOctets xs → AreOctets ys → AreOctets (xs ++ ys)
bytes_append [] ys are others = others
bytes_append (x ∷ xs) ys are others = (are.0, bytes_append xs ys are.1 others)

numbers_are : (ns : List ℕ) → AllByRecursion (λ n. n < 256 ^ 4) ns → AreOctets (flat_map (number_octets four_octets) ns)
numbers_are [] fit = tt
numbers_are (n ∷ ns) fit = bytes_append (to_be_bytes w32 n) (flat_map (number_octets four_octets) ns) (number_is n) (numbers_are ns fit.1)
  where
    number_is : (n : ℕ) → AreOctets (to_be_bytes w32 n)
    number_is n = (omega arith, (omega arith, (omega arith, (omega arith, tt))))

small_kind : (kind : ℕ) → is_set_or_sequence kind ≡ true → kind < 256
small_kind kind e = by_tests (nat_eq kind 1) (nat_eq kind 2) refl refl e
  where
    by_tests : (a b : Bool) → nat_eq kind 1 ≡ a → nat_eq kind 2 ≡ b → (a || b) ≡ true → kind < 256
    by_tests true b p q e = let is : kind ≡ 1 = eqb-true kind 1 p in omega arith
    by_tests false true p q e = let is : kind ≡ 2 = eqb-true kind 2 q in omega arith
    by_tests false false p q e = cc

pub path_are : (path : List Segment) → AllByRecursion IsFour path → AreOctets (path_octets four_octets path)
path_are [] each = tt
path_are (s ∷ path) each =
    (small_kind s.kind each.0.kind, (each.0.most, bytes_append (flat_map (number_octets four_octets) s.numbers) (path_octets four_octets path) (numbers_are s.numbers each.0.numbers) (path_are path each.1)))
