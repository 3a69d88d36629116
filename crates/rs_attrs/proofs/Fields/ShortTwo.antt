-- The values of a two-octet peer have room in a head.
use Rattle.std.proofs.Common.{◌≡◌, ℕ, zero, suc, ◌+◌, ◌-◌, ◌*◌, ◌^◌, ◌<◌, ◌≤◌, Bool, true, false, cond, List, [], ◌∷◌, ◌++◌, length, take, Option, Some, None, refl, sym, ap, subst, arith, length-append, ◌⊎◌, inl, inr}
use Rattle.std.specs.Prelude.{nat_lt, nat_le}
use Rattle.std.specs.List.{flat_map, AllByRecursion}
use Rattle.rs_attrs.specs.declared.mode.Mode.TheVariants.{Two}
use Rattle.rs_attrs.specs.Spellings.{Spelling, AreOctets}
use Rattle.rs_attrs.specs.Paths.{Segment, AsSize, two_octets, four_octets, number_octets, path_octets, segment_length, path_length, leading}
use Rattle.rs_attrs.specs.Table.{outcome_of, is_kept}
use Rattle.rs_attrs.specs.Meaning.{merged_with, ignores_as4, aggregator_by, value_by_two}
use Rattle.rs_attrs.specs.Merging.{segments_in, plain, as4_value}
use Rattle.rs_attrs.proofs.Paths.PathLaws.{numbers_size}
use Rattle.rs_attrs.proofs.Paths.MergedPaths.{whole_segments}
use Rattle.rs_attrs.proofs.Fields.ByTwo.{good_path, good_as4_path, good_as4_value, path_value, aggregator_value, other_value}
use Rattle.rs_attrs.proofs.Paths.PathFour.{IsFour, fours, plain_fours, merged_fours}
use Rattle.rs_attrs.proofs.Fields.LegalTwo.{IsUsed, as4_octets, eq_or_not}

-- ---- lengths of paths

-- a segment takes at most 1,022 octets
pub path_size : (path : List Segment) → AllByRecursion IsFour path → length (path_octets four_octets path) ≤ 1022 * length path
path_size [] each = omega arith
path_size (s ∷ path) each =
    let numbers : length (flat_map (number_octets four_octets) s.numbers) ≡ 4 * length s.numbers = numbers_size four_octets s.numbers in
    let more = path_size path each.1 in
    let both : length (flat_map (number_octets four_octets) s.numbers ++ path_octets four_octets path) ≡ length (flat_map (number_octets four_octets) s.numbers) + length (path_octets four_octets path) =
    length-append (flat_map (number_octets four_octets) s.numbers) (path_octets four_octets path) in
    omega (arith, each.0.most)

-- and at least two
segments_within : (size : AsSize) (path : List Segment) → 2 * length path ≤ length (path_octets size path)
segments_within size [] = omega arith
segments_within size (s ∷ path) =
    let more = segments_within size path in
    let both : length (flat_map (number_octets size) s.numbers ++ path_octets size path) ≡ length (flat_map (number_octets size) s.numbers) + length (path_octets size path) =
    length-append (flat_map (number_octets size) s.numbers) (path_octets size path) in
    omega arith

leading_within : (path : List Segment) (n : ℕ) → length (leading n path) ≤ length path
leading_within [] n = omega arith
leading_within (s ∷ path) zero = omega arith
leading_within (s ∷ path) (suc n) = by_test (nat_le (segment_length s) (suc n)) (leading_within path (suc n - segment_length s))
  where
    by_test : (b : Bool) → length (leading (suc n - segment_length s) path) ≤ length path
        → length (cond b (s ∷ leading (suc n - segment_length s) path) (record { kind = s.kind; numbers = take (suc n) s.numbers } ∷ [])) ≤ length (s ∷ path)
    by_test true h = omega arith
    by_test false h = omega arith

plain_within : (path : List Segment) → length (plain path) ≤ length path
plain_within [] = omega arith
plain_within (s ∷ path) = by_test _ (plain_within path)
  where
    by_test : (b : Bool) → length (plain path) ≤ length path → length (cond b (s ∷ plain path) (plain path)) ≤ length (s ∷ path)
    by_test true h = omega arith
    by_test false h = omega arith

merged_within : (path as4 : List Segment) → length (merged_with path as4) ≤ length path + length as4
merged_within path as4 = by_test (nat_lt (path_length path) (path_length as4))
  where
    by_test : (b : Bool) → length (cond b path (leading (path_length path - path_length as4) path ++ as4)) ≤ length path + length as4
    by_test true = omega arith
    by_test false =
        let both = length-append (leading (path_length path - path_length as4) path) as4 in
        let within = leading_within path (path_length path - path_length as4) in
        omega arith

-- ---- values

as4_short : (ignores : Bool) (o : Option Spelling) → ((s : Spelling) → o ≡ Some s → length s.value < 65536) → length (as4_value ignores o) < 65536
as4_short true None short = omega arith
as4_short true (Some s) short = omega arith
as4_short false None short = omega arith
as4_short false (Some s) short = short s refl

aggregator_short : (ignores : Bool) (o : Option Spelling) (value : List ℕ) → ((s : Spelling) → o ≡ Some s → length s.value < 65536) → length value < 65536 → length (aggregator_by ignores o value) < 65538
aggregator_short true None value as4 h = omega arith
aggregator_short true (Some s) value as4 h = omega arith
aggregator_short false None value as4 h = omega arith
aggregator_short false (Some s) value as4 h = let short = as4 s refl in omega arith

abbrev AreShortValues : (ℕ → Option Spelling) → Type 0
AreShortValues used = (kind : ℕ) (s : Spelling) → used kind ≡ Some s → length s.value < 65536

path_short : (used : ℕ → Option Spelling) (s : Spelling) → IsUsed used → AreShortValues used → s.kind ≡ 2 → is_kept (outcome_of Two s) ≡ true → AreOctets s.value → length s.value < 65536 → length (value_by_two used s) < 2 ^ 32
path_short used s is short e good octets h =
    let whole = good_path s e good in
    let as4 : List ℕ = as4_value (ignores_as4 (used 7) (used 18)) (used 17) in
    let as4_whole = good_as4_value (ignores_as4 (used 7) (used 18)) (used 17) (λ t u. (let had = is 17 t u in good_as4_path t had.1 had.0)) in
    let as4_bytes : AreOctets as4 = as4_octets (ignores_as4 (used 7) (used 18)) (used 17) (λ t u. (is 17 t u).2) in
    let path = whole_segments two_octets false s.value octets whole in
    let more = whole_segments four_octets true as4 as4_bytes as4_whole in
    let p : List Segment = segments_in two_octets false s.value in
    let q : List Segment = segments_in four_octets true as4 in
    let all = merged_fours p (plain q) (fours p path.each) (plain_fours q more.each) in
    let size = path_size (merged_with p (plain q)) all in
    let count = merged_within p (plain q) in
    let plains = plain_within q in
    let first : 2 * length p ≤ length s.value = subst (λ (value : List ℕ). 2 * length p ≤ length value) (sym path.whole) (segments_within two_octets p) in
    let second : 2 * length q ≤ length as4 = subst (λ (value : List ℕ). 2 * length q ≤ length value) (sym more.whole) (segments_within four_octets q) in
    let as4_h = as4_short (ignores_as4 (used 7) (used 18)) (used 17) (λ t u. short 17 t u) in
    let same = ap length (path_value used s e octets whole) in
    omega arith

pub short_by_two : (used : ℕ → Option Spelling) → IsUsed used → AreShortValues used → (kind : ℕ) (s : Spelling) → used kind ≡ Some s → length (value_by_two used s) < 2 ^ 32
short_by_two used is short kind s e = by_cases (eq_or_not s.kind 2) (eq_or_not s.kind 7)
  where
    by_cases : (s.kind ≡ 2) ⊎ (s.kind ≡ 2 → ⊥) → (s.kind ≡ 7) ⊎ (s.kind ≡ 7 → ⊥) → length (value_by_two used s) < 2 ^ 32
    by_cases (inl two) seven = let had = is kind s e in path_short used s is short two had.0 had.2 (short kind s e)
    by_cases (inr not_two) (inl seven) =
        let same = ap length (aggregator_value used s seven) in
        let within = aggregator_short (ignores_as4 (used 7) (used 18)) (used 18) s.value (λ t u. short 18 t u) (short kind s e) in
        omega arith
    by_cases (inr not_two) (inr not_seven) =
        let same = ap length (other_value used s not_two not_seven) in
        let h = short kind s e in
        omega arith
