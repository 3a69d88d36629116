-- AS_PATH and AGGREGATOR with AS numbers of two octets, and AS4_PATH and AS4_AGGREGATOR, which keep those of four.
use Rattle.std.proofs.Common.{◌≡◌, ℕ, zero, suc, ◌+◌, ◌/◌, ◌%◌, ◌<◌, ◌&&◌, ◌||◌, Bool, true, false, cond, List, [], ◌∷◌, ◌++◌, length, map, take, drop, length-drop, get_or, Option, Some, None, refl, sym, ap, subst, ◌∙◌, arith, nat_lt, nat_eq}
use Rattle.std.specs.Prelude.{is_some, filter}
use Rattle.std.specs.List.{list_any, AllByRecursion}
use Rattle.std.specs.Int.{w16, w32, to_be_bytes}
use Rattle.std.proofs.lemmas.Nat.{be_bytes_4, from_be_bytes-to_be_bytes_2}
use Rattle.std.proofs.lemmas.Bool.{eqb-true, ltb-false, lt-ltb, or_parts}
use Rattle.std.proofs.lemmas.List.{length-map, take-append-drop, length-take-le}
use Rattle.std.proofs.lemmas.List.Sums.{sum_by-cons}
use Rattle.rs_attrs.specs.declared.mode.Mode.TheVariants.{Two, Four}
use Rattle.rs_attrs.specs.declared.table.Outcome.{Outcome}
use Rattle.rs_attrs.specs.declared.table.Outcome.TheVariants.{Kept, Withdraw, Discard}
use Rattle.rs_attrs.specs.declared.table.Class.TheVariants.{WellKnown, OptionalTransitive}
use Rattle.rs_attrs.specs.Spellings.{AreOctets}
use Rattle.rs_attrs.specs.Paths.{or_none, Segment, two_octets, four_octets, is_set_or_sequence, is_any_segment, IsSegment, IsPath, path_length, segments_of, segment_length}
use Rattle.rs_attrs.specs.Table.{fits_class, outcome_of, is_kept, is_path, is_as4_path}
use Rattle.rs_octets.specs.Numbers.{as_trans}
use Rattle.rs_attrs.specs.Meaning.{Attribute, aggregator_as}
use Rattle.rs_attrs.specs.Writing.{flags_of, spelling_of, IsLegalAttribute, needs_four_octets, as_trans_or, narrowed_segment, path_in, aggregator_in, as4_attribute}
use Rattle.rs_attrs.proofs.Paths.PathLaws.{are_taken, path_back, path_found}
use Rattle.rs_attrs.proofs.Written.Narrowing.{as4_class}

-- ---- AS_PATH

by_flags : (bad : Outcome) → is_kept bad ≡ false → (f w : Bool) → is_kept (cond f (cond w Kept bad) Withdraw) ≡ true → (f ≡ true) × (w ≡ true)
by_flags bad is true true e = (refl, refl)
by_flags bad is true false e = absurd (let no : false ≡ true = sym is ∙ e in cc)
by_flags bad is false w e = absurd cc

-- what a legal AS_PATH is
pub record PathFacts (a : Attribute) (path : List Segment) : Type 0 where
  pub flags : fits_class WellKnown (flags_of a) ≡ true
  pub is : path_in a.value ≡ path
  pub spells : IsPath four_octets is_set_or_sequence a.value path

pub path_facts : (a : Attribute) → IsLegalAttribute a → a.kind ≡ 2 → (path : List Segment) × PathFacts a path
path_facts a legal kind =
    let P : ℕ → Type 0 = λ kind. is_kept (outcome_of Four (record { flags = flags_of a; kind = kind; value = a.value })) ≡ true in
    let both = by_flags Withdraw refl (fits_class WellKnown (flags_of a)) (is_path four_octets a.value) (subst P kind legal.is_kept) in
    by_path (segments_of four_octets is_set_or_sequence a.value) refl both.0 both.1
  where
    by_path : (r : Option (List Segment)) → segments_of four_octets is_set_or_sequence a.value ≡ r → fits_class WellKnown (flags_of a) ≡ true → is_some r ≡ true → (path : List Segment) × PathFacts a path
    by_path None e flags some = absurd cc
    by_path (Some path) e flags some = (
      path,
      record {
        flags = flags;
        is = ap (λ o. or_none o) e;
        spells = path_found four_octets is_set_or_sequence a.value path legal.octets e;
      },
    )

narrow_fits : (n : ℕ) → as_trans_or n < 65536
narrow_fits n = by_test (nat_lt 65535 n) refl
  where
    by_test : (b : Bool) → nat_lt 65535 n ≡ b → cond b 23456 n < 65536
    by_test true e = omega arith
    by_test false e = let most = ltb-false 65535 n e in omega arith

numbers_fit : (ns : List ℕ) → AllByRecursion (λ n. n < 65536) (map as_trans_or ns)
numbers_fit [] = tt
numbers_fit (n ∷ ns) = (narrow_fits n, numbers_fit ns)

pub narrowed_each : (path : List Segment) → AllByRecursion (IsSegment four_octets is_set_or_sequence) path → AllByRecursion (IsSegment two_octets is_set_or_sequence) (map narrowed_segment path)
narrowed_each [] each = tt
narrowed_each (s ∷ path) each =
    let here = each.0 in
    let size : length (map as_trans_or s.numbers) ≡ length s.numbers = length-map s.numbers as_trans_or in (
      record {
        kind = here.kind;
        some = subst (λ (n : ℕ). 0 < n) (sym size) here.some;
        most = subst (λ (n : ℕ). n < 256) (sym size) here.most;
        numbers = numbers_fit s.numbers;
      },
      narrowed_each path each.1,
    )

narrowed_segment_length : (s : Segment) → segment_length (narrowed_segment s) ≡ segment_length s
narrowed_segment_length s = ap (λ n. cond (nat_eq s.kind 1) 1 n) (length-map s.numbers as_trans_or)

pub narrowed_length : (path : List Segment) → path_length (map narrowed_segment path) ≡ path_length path
narrowed_length [] = refl
narrowed_length (s ∷ path) =
    sum_by-cons segment_length (narrowed_segment s) (map narrowed_segment path)
    ∙ (λ i. narrowed_segment_length s i + narrowed_length path i)
    ∙ sym (sum_by-cons segment_length s path)

same_numbers : (ns : List ℕ) → list_any needs_four_octets ns ≡ false → map as_trans_or ns ≡ ns
same_numbers [] e = refl
same_numbers (n ∷ ns) e =
    let both = or_parts (needs_four_octets n) (list_any needs_four_octets ns) e in
    λ i. ap (λ b. cond b as_trans n) both.0 i ∷ same_numbers ns both.1 i

-- a path without numbers that need four octets stays as it is
pub same_path : (path : List Segment) → list_any (λ s. list_any needs_four_octets s.numbers) path ≡ false → map narrowed_segment path ≡ path
same_path [] e = refl
same_path (s ∷ path) e =
    let both = or_parts (list_any needs_four_octets s.numbers) (list_any (λ s. list_any needs_four_octets s.numbers) path) e in
    λ i. record { kind = s.kind; numbers = same_numbers s.numbers both.0 i } ∷ same_path path both.1 i

any_each : (path : List Segment) → AllByRecursion (IsSegment four_octets is_set_or_sequence) path → AllByRecursion (IsSegment four_octets is_any_segment) path
any_each [] each = tt
any_each (s ∷ path) each =
    let here = each.0 in (
      record {
        kind = ap (λ b. b || nat_eq s.kind 3 || nat_eq s.kind 4) here.kind;
        some = here.some;
        most = here.most;
        numbers = here.numbers;
      },
      any_each path each.1,
    )

-- AS4_PATH reads the value of AS_PATH as AS_PATH does
pub as4_segments : (value : List ℕ) (path : List Segment) → IsPath four_octets is_set_or_sequence value path → segments_of four_octets is_any_segment value ≡ Some path
as4_segments value path spells = ap (segments_of four_octets is_any_segment) spells.whole ∙ path_back four_octets is_any_segment path (any_each path spells.each)

pub all_stay : (path : List Segment) → AllByRecursion (IsSegment four_octets is_set_or_sequence) path → filter (λ (s : Segment). is_set_or_sequence s.kind) path ≡ path
all_stay [] each = refl
all_stay (s ∷ path) each =
    ap (λ b. cond b (s ∷ filter (λ (s : Segment). is_set_or_sequence s.kind) path) (filter (λ (s : Segment). is_set_or_sequence s.kind) path)) each.0.kind
    ∙ ap (λ path. s ∷ path) (all_stay path each.1)

-- ---- AS4_PATH and AS4_AGGREGATOR

pub as4_path_kept : (value : List ℕ) (path : List Segment) → IsPath four_octets is_set_or_sequence value path → list_any (λ s. list_any needs_four_octets s.numbers) path ≡ true
    → is_kept (outcome_of Two (spelling_of (as4_attribute 17 value))) ≡ true
as4_path_kept value [] spells needs = absurd cc
as4_path_kept value (s ∷ path) spells needs =
    let some : nat_lt 0 (length value) ≡ true = ap (λ octets. nat_lt 0 (length octets)) spells.whole ∙ lt-ltb 0 _ (omega arith) in
    let well : is_as4_path value ≡ true = λ i. some i && ap is_some (as4_segments value (s ∷ path) spells) i in
    ap (λ f. is_kept (cond f (cond (is_as4_path value) Kept Discard) Withdraw)) (as4_class 17 value)
    ∙ ap (λ w. is_kept (cond w Kept Discard)) well

-- what a legal AGGREGATOR is
pub record AggregatorFacts (a : Attribute) : Type 0 where
  pub flags : fits_class OptionalTransitive (flags_of a) ≡ true
  pub size : length a.value ≡ 8

pub aggregator_facts : (a : Attribute) → IsLegalAttribute a → a.kind ≡ 7 → AggregatorFacts a
aggregator_facts a legal kind =
    let P : ℕ → Type 0 = λ kind. is_kept (outcome_of Four (record { flags = flags_of a; kind = kind; value = a.value })) ≡ true in
    let both = by_flags Discard refl (fits_class OptionalTransitive (flags_of a)) (nat_eq (length a.value) 8) (subst P kind legal.is_kept) in
    record { flags = both.0; size = eqb-true (length a.value) 8 both.1 }

pub as4_aggregator_kept : (value : List ℕ) → length value ≡ 8 → is_kept (outcome_of Two (spelling_of (as4_attribute 18 value))) ≡ true
as4_aggregator_kept value size =
    ap (λ f. is_kept (cond f (cond (nat_eq (length value) 8) Kept Discard) Withdraw)) (as4_class 18 value)
    ∙ ap (λ n. is_kept (cond (nat_eq n 8) Kept Discard)) size

abbrev pub aggregator_value : List ℕ → List ℕ
aggregator_value value = to_be_bytes w16 (as_trans_or (aggregator_in value)) ++ drop 4 value

pub aggregator_size : (value : List ℕ) → length value ≡ 8 → length (aggregator_value value) ≡ 6
aggregator_size value size = omega (arith, length-drop 4 value)

pub aggregator_as_back : (value : List ℕ) → aggregator_as (aggregator_value value) ≡ as_trans_or (aggregator_in value)
aggregator_as_back value = from_be_bytes-to_be_bytes_2 (as_trans_or (aggregator_in value)) (narrow_fits (aggregator_in value))

-- a number that fits two octets, in four
wide_bytes : (n : ℕ) → n < 65536 → to_be_bytes w32 n ≡ 0 ∷ 0 ∷ to_be_bytes w16 n
wide_bytes n h =
    let top : n / 16777216 % 256 ≡ 0 = omega arith in
    let next : n / 65536 % 256 ≡ 0 = omega arith in
    λ i. top i ∷ next i ∷ to_be_bytes w16 n

get_fits : (octets : List ℕ) → AreOctets octets → (i : ℕ) → get_or octets i 0 < 256
get_fits [] are i = omega arith
get_fits (o ∷ octets) are zero = are.0
get_fits (o ∷ octets) are (suc i) = get_fits octets are.1 i

-- an AGGREGATOR whose number fits two octets is widened to what it was
pub aggregator_back : (value : List ℕ) → AreOctets value → length value ≡ 8 → needs_four_octets (aggregator_in value) ≡ false → 0 ∷ 0 ∷ aggregator_value value ≡ value
aggregator_back value are size fits =
    let n : ℕ = aggregator_in value in
    let small : n < 65536 = omega (arith, ltb-false 65535 n fits) in
    let front : to_be_bytes w32 n ≡ take 4 value = be_bytes_4 (take 4 value) n (length-take-le 4 value (omega arith)) (get_fits (take 4 value) (are_taken 4 value are)) refl in
    ap (λ m. 0 ∷ 0 ∷ to_be_bytes w16 m ++ drop 4 value) (ap (λ b. cond b as_trans n) fits)
    ∙ ap (λ octets. octets ++ drop 4 value) (sym (wide_bytes n small) ∙ front)
    ∙ take-append-drop 4 value
