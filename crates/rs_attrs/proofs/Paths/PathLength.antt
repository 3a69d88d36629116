-- The length of a path, summed up over its segments.
use Rattle.std.proofs.Common.{◌≡◌, ℕ, zero, suc, ◌+◌, ◌*◌, ◌≤◌, ◌||◌, Bool, true, false, cond, List, [], ◌∷◌, length, refl, sym, ap, ◌∙◌, arith, nat_eq}
use Rattle.std.proofs.lemmas.Bool.{ne_eqb}
use Rattle.std.proofs.lemmas.List.Sums.{sum_by-cons}
use Rattle.rs_attrs.specs.declared.segments.RawSegment.{RawSegment}
use Rattle.rs_attrs.specs.Paths.{Segment, AsSize, two_octets, four_octets, octets_each, numbers_in, segment_length, path_length}
use Rattle.rs_attrs.specs.Merging.{segments_in, IsWhole, IsCut, plain, segment_in}

pub numbers_count : (size : AsSize) (count : ℕ) (octets : List ℕ) → length octets ≡ octets_each size * count → length (numbers_in size octets) ≡ count
numbers_count two_octets count [] h = omega arith
numbers_count two_octets count (a ∷ []) h = absurd (omega arith)
numbers_count two_octets zero (a ∷ b ∷ octets) h = absurd (omega arith)
numbers_count two_octets (suc count) (a ∷ b ∷ octets) h = ap suc (numbers_count two_octets count octets (omega arith))
numbers_count four_octets count [] h = omega arith
numbers_count four_octets count (a ∷ []) h = absurd (omega arith)
numbers_count four_octets count (a ∷ b ∷ []) h = absurd (omega arith)
numbers_count four_octets count (a ∷ b ∷ c ∷ []) h = absurd (omega arith)
numbers_count four_octets zero (a ∷ b ∷ c ∷ d ∷ octets) h = absurd (omega arith)
numbers_count four_octets (suc count) (a ∷ b ∷ c ∷ d ∷ octets) h = ap suc (numbers_count four_octets count octets (omega arith))

count_within : (size : AsSize) (count n : ℕ) → n ≡ octets_each size * count → count ≤ n
count_within two_octets count n e = omega arith
count_within four_octets count n e = omega arith

-- what a segment adds to the length of its path
abbrev pub added : ℕ → ℕ → ℕ
added kind count = cond (nat_eq kind 1) 1 (cond (nat_eq kind 2) count 0)

-- the length of what is passed and of what is left
pub record Measured (size : AsSize) (confederations : Bool) (path : List ℕ) (sum : ℕ) (rest : List ℕ) : Type 0 where
  pub whole : IsWhole size confederations rest
  pub total : path_length (plain (segments_in size confederations path)) ≡ sum + path_length (plain (segments_in size confederations rest))
  pub room : sum + length rest ≤ length path

pub measured_start : (size : AsSize) (confederations : Bool) (path : List ℕ) → IsWhole size confederations path → Measured size confederations path 0 path
measured_start size confederations path whole = record { whole = whole; total = omega arith; room = omega arith }

added_length : (kind count : ℕ) (s : Segment) (ss : List Segment) → s.kind ≡ kind → length s.numbers ≡ count → path_length (plain (s ∷ ss)) ≡ added kind count + path_length (plain ss)
added_length kind count s ss kind_is count_is = by_tests (nat_eq kind 1) (nat_eq kind 2) refl refl
  where
    cons : path_length (s ∷ plain ss) ≡ segment_length s + path_length (plain ss)
    cons = sum_by-cons segment_length s (plain ss)

    by_tests : (a b : Bool) → nat_eq kind 1 ≡ a → nat_eq kind 2 ≡ b → path_length (plain (s ∷ ss)) ≡ cond a 1 (cond b count 0) + path_length (plain ss)
    by_tests true b p q =
        let one : nat_eq s.kind 1 ≡ true = ap (λ k. nat_eq k 1) kind_is ∙ p in
        ap (λ t. path_length (cond (t || nat_eq s.kind 2) (s ∷ plain ss) (plain ss))) one ∙ cons ∙ ap (λ t. cond t 1 (length s.numbers) + path_length (plain ss)) one
    by_tests false true p q =
        let one : nat_eq s.kind 1 ≡ false = ap (λ k. nat_eq k 1) kind_is ∙ p in
        let two : nat_eq s.kind 2 ≡ true = ap (λ k. nat_eq k 2) kind_is ∙ q in
        (λ i. path_length (cond (one i || two i) (s ∷ plain ss) (plain ss))) ∙ cons ∙ (λ i. cond (one i) 1 (count_is i) + path_length (plain ss))
    by_tests false false p q =
        let one : nat_eq s.kind 1 ≡ false = ap (λ k. nat_eq k 1) kind_is ∙ p in
        let two : nat_eq s.kind 2 ≡ false = ap (λ k. nat_eq k 2) kind_is ∙ q in
        let none : path_length (plain ss) ≡ 0 + path_length (plain ss) = omega arith in
        (λ i. path_length (cond (one i || two i) (s ∷ plain ss) (plain ss))) ∙ none

pub measured_step : (size : AsSize) (confederations : Bool) (path : List ℕ) (sum sum' : ℕ) (rest : List ℕ) (s : RawSegment) → Measured size confederations path sum rest → IsCut size confederations rest s
    → length s.numbers.now + length s.rest.now + 2 ≤ length rest → sum' ≡ sum + added s.kind s.count → Measured size confederations path sum' s.rest.now
measured_step size confederations path sum sum' rest s had cut shorter sum_is =
    let here = added_length s.kind s.count (segment_in size s) (segments_in size confederations s.rest.now) refl (numbers_count size s.count s.numbers.now cut.octets) in
    let segments : path_length (plain (segments_in size confederations rest)) ≡ added s.kind s.count + path_length (plain (segments_in size confederations s.rest.now)) =
    ap (λ ss. path_length (plain ss)) cut.segments ∙ here in
    record {
      whole = cut.whole;
      total = omega (arith, had.total, segments, sum_is);
      room = omega (arith, had.room, shorter, sum_is, added_within (nat_eq s.kind 1) (nat_eq s.kind 2) s.count, count_within size s.count (length s.numbers.now) cut.octets);
    }
  where
    added_within : (a b : Bool) (count : ℕ) → cond a 1 (cond b count 0) ≤ 1 + count
    added_within true b count = omega arith
    added_within false true count = omega arith
    added_within false false count = omega arith

-- what is added fits
pub added_fits : (size : AsSize) (confederations : Bool) (path : List ℕ) (sum : ℕ) (rest : List ℕ) (s : RawSegment) → Measured size confederations path sum rest → IsCut size confederations rest s
    → length s.numbers.now + length s.rest.now + 2 ≤ length rest → sum + (1 + s.count) ≤ length path
added_fits size confederations path sum rest s had cut shorter = omega (arith, had.room, shorter, count_within size s.count (length s.numbers.now) cut.octets)

pub measured_end : (size : AsSize) (confederations : Bool) (path : List ℕ) (sum : ℕ) (rest : List ℕ) → Measured size confederations path sum rest → segments_in size confederations rest ≡ [] → sum ≡ path_length (plain (segments_in size confederations path))
measured_end size confederations path sum rest had none =
    let zero_left : path_length (plain (segments_in size confederations rest)) ≡ 0 = ap (λ ss. path_length (plain ss)) none in
    omega (arith, had.total, zero_left)

pub added_one : (kind count : ℕ) → kind ≡ 1 → 1 ≡ added kind count
added_one kind count e = ap (λ kind. added kind count) (sym e)

pub added_count : (kind count : ℕ) → kind ≡ 2 → count ≡ added kind count
added_count kind count e = ap (λ kind. added kind count) (sym e)

pub added_none : (kind count : ℕ) → (kind ≡ 1 → ⊥) → (kind ≡ 2 → ⊥) → 0 ≡ added kind count
added_none kind count p q = sym (λ i. cond (ne_eqb kind 1 p i) 1 (cond (ne_eqb kind 2 q i) count 0))
