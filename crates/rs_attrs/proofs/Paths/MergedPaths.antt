-- AS_PATH and AS4_PATH put together.
use Rattle.std.proofs.Common.{◌≡◌, ℕ, ◌+◌, ◌-◌, ◌<◌, ◌≤◌, Bool, true, false, cond, List, [], ◌∷◌, ◌++◌, length, Option, Some, None, refl, sym, ap, ◌∙◌, arith, nat_eq, append_assoc}
use Rattle.std.specs.Prelude.{is_some, nat_lt}
use Rattle.std.specs.List.{AllByRecursion}
use Rattle.std.proofs.lemmas.Bool.{lt-ltb, le-ltb}
use Rattle.std.proofs.lemmas.List.{append-nil}
use Rattle.std.proofs.lemmas.List.Sums.{sum_by-cons}
use Rattle.rs_attrs.specs.Spellings.{AreOctets}
use Rattle.rs_attrs.specs.Paths.{Segment, AsSize, two_octets, four_octets, segments_of, or_none, segment_octets, path_octets, segment_length, path_length, leading, is_set_or_sequence, IsSegment, IsPath}
use Rattle.rs_attrs.specs.Meaning.{if_some, merged_with, merged}
use Rattle.rs_attrs.specs.Walking.{segment_kinds}
use Rattle.rs_attrs.specs.Merging.{segments_in, IsWhole, plain}
use Rattle.rs_attrs.proofs.Paths.PathLaws.{path_found}
use Rattle.rs_attrs.proofs.Paths.Leading.{leading_whole}

-- the segments of a well-formed value
pub whole_segments : (size : AsSize) (confederations : Bool) (value : List ℕ) → AreOctets value → IsWhole size confederations value → IsPath size (segment_kinds confederations) value (segments_in size confederations value)
whole_segments size confederations value octets whole = by_case (segments_of size (segment_kinds confederations) value) refl whole
  where
    by_case : (o : Option (List Segment)) → segments_of size (segment_kinds confederations) value ≡ o → is_some o ≡ true → IsPath size (segment_kinds confederations) value (or_none o)
    by_case None e some = cc
    by_case (Some path) e some = path_found size (segment_kinds confederations) value path octets e

pub plain_all : (size : AsSize) (path : List Segment) → AllByRecursion (IsSegment size is_set_or_sequence) path → plain path ≡ path
plain_all size [] each = refl
plain_all size (s ∷ path) each = ap (λ b. cond b (s ∷ plain path) (plain path)) each.0.kind ∙ ap (λ path. s ∷ path) (plain_all size path each.1)

segment_counts : (size : AsSize) (is_kind : ℕ → Bool) (s : Segment) → IsSegment size is_kind s → 0 < segment_length s
segment_counts size is_kind s is = by_test (nat_eq s.kind 1) is.some
  where
    by_test : (b : Bool) → 0 < length s.numbers → 0 < cond b 1 (length s.numbers)
    by_test true h = omega arith
    by_test false h = h

pub leading_all : (size : AsSize) (is_kind : ℕ → Bool) (path : List Segment) → AllByRecursion (IsSegment size is_kind) path → leading (path_length path) path ≡ path
leading_all size is_kind [] each = refl
leading_all size is_kind (s ∷ path) each =
    let sum : path_length (s ∷ path) ≡ segment_length s + path_length path = sum_by-cons segment_length s path in
    let some = segment_counts size is_kind s each.0 in
    let left : path_length (s ∷ path) - segment_length s ≡ path_length path = omega arith in
    leading_whole (path_length (s ∷ path)) s path (omega arith) (omega arith)
    ∙ ap (λ n. s ∷ leading n path) left ∙ ap (λ path. s ∷ path) (leading_all size is_kind path each.1)

pub path_octets-append : (size : AsSize) (path more : List Segment) → path_octets size (path ++ more) ≡ path_octets size path ++ path_octets size more
path_octets-append size [] more = refl
path_octets-append size (s ∷ path) more =
    ap (λ octets. segment_octets size s ++ octets) (path_octets-append size path more)
    ∙ sym (append_assoc (segment_octets size s) (path_octets size path) (path_octets size more))

-- AS_PATH is the shorter one
pub merged_shorter : (old values path : List ℕ) (as4 : List Segment) (n m : ℕ) → AreOctets path → IsWhole two_octets false path
    → n ≡ path_length (plain (segments_in two_octets false path)) → m ≡ path_length as4 → n < m
    → values ≡ old ++ path_octets four_octets (leading n (segments_in two_octets false path)) → values ≡ old ++ path_octets four_octets (merged_with (segments_in two_octets false path) as4)
merged_shorter old values path as4 n m octets whole n_is m_is h values_is =
    let p : List Segment = segments_in two_octets false path in
    let is = whole_segments two_octets false path octets whole in
    let count : n ≡ path_length p = n_is ∙ ap path_length (plain_all two_octets p is.each) in
    let shorter : nat_lt (path_length p) (path_length as4) ≡ true = lt-ltb (path_length p) (path_length as4) (omega (arith, count, m_is, h)) in
    values_is ∙ ap (λ n. old ++ path_octets four_octets (leading n p)) count
    ∙ ap (λ path. old ++ path_octets four_octets path) (leading_all two_octets is_set_or_sequence p is.each)
    ∙ ap (λ b. old ++ path_octets four_octets (cond b p (leading (path_length p - path_length as4) p ++ as4))) (sym shorter)

-- it is not
pub merged_longer : (old front values path : List ℕ) (as4 : List Segment) (n m : ℕ) → AreOctets path → IsWhole two_octets false path
    → n ≡ path_length (plain (segments_in two_octets false path)) → m ≡ path_length as4 → m ≤ n
    → front ≡ old ++ path_octets four_octets (leading (n - m) (segments_in two_octets false path)) → values ≡ front ++ path_octets four_octets as4
    → values ≡ old ++ path_octets four_octets (merged_with (segments_in two_octets false path) as4)
merged_longer old front values path as4 n m octets whole n_is m_is h front_is values_is =
    let p : List Segment = segments_in two_octets false path in
    let is = whole_segments two_octets false path octets whole in
    let count : n ≡ path_length p = n_is ∙ ap path_length (plain_all two_octets p is.each) in
    let longer : nat_lt (path_length p) (path_length as4) ≡ false = le-ltb (path_length p) (path_length as4) (omega (arith, count, m_is, h)) in
    let kept : List Segment = leading (path_length p - path_length as4) p in
    values_is ∙ ap (λ front. front ++ path_octets four_octets as4) (front_is ∙ (λ i. old ++ path_octets four_octets (leading (count i - m_is i) p)))
    ∙ append_assoc old (path_octets four_octets kept) (path_octets four_octets as4)
    ∙ ap (λ octets. old ++ octets) (sym (path_octets-append four_octets kept as4))
    ∙ ap (λ b. old ++ path_octets four_octets (cond b p (kept ++ as4))) (sym longer)

-- ---- as it is defined

none_merged : (p : List Segment) → AllByRecursion (IsSegment two_octets is_set_or_sequence) p → p ≡ merged_with p []
none_merged p each =
    let no : nat_lt (path_length p) 0 ≡ false = le-ltb (path_length p) 0 (omega arith) in
    let all : path_length p - 0 ≡ path_length p = omega arith in
    sym (ap (λ b. cond b p (leading (path_length p - 0) p ++ [])) no ∙ append-nil (leading (path_length p - 0) p)
    ∙ ap (λ n. leading n p) all ∙ leading_all two_octets is_set_or_sequence p each)

pub merged_is : (p as4 : List Segment) → AllByRecursion (IsSegment two_octets is_set_or_sequence) p → merged p (if_some as4) ≡ merged_with p as4
merged_is p [] each = none_merged p each
merged_is p (s ∷ as4) each = refl

pub merged_none : (p : List Segment) → AllByRecursion (IsSegment two_octets is_set_or_sequence) p → merged p None ≡ merged_with p []
merged_none p each = none_merged p each
