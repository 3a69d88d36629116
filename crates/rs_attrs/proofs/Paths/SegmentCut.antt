-- A well-formed path, taken apart from the front.
use Rattle.std.proofs.Common.{◌≡◌, ℕ, zero, suc, slice_index, ◌*◌, ◌<◌, ◌≤◌, Bool, true, false, cond, List, [], ◌∷◌, length, take, drop, get_or, Option, Some, None, refl, sym, ap, subst, ◌∙◌, arith}
use Rattle.std.specs.Prelude.{is_some}
use Rattle.std.proofs.lemmas.List.{length-take-le}
use Rattle.rs_attrs.specs.declared.segments.RawSegment.{RawSegment}
use Rattle.rs_attrs.specs.Paths.{Segment, AsSize, octets_each, numbers_in, begins_segment, with_front, segments_behind, segments_of, or_none}
use Rattle.rs_attrs.specs.Walking.{segment_kinds}
use Rattle.rs_attrs.specs.Merging.{segments_in, IsWhole, IsCut}
use Rattle.rs_attrs.proofs.Paths.PathLaws.{skip_segments, Begins, begins}

-- the path has a segment of these kinds at its front
pub record Front (size : AsSize) (is_kind : ℕ → Bool) (kind count : ℕ) (behind : List ℕ) : Type 0 where
  pub here : Begins size is_kind kind count behind
  pub whole : is_some (segments_of size is_kind (drop (octets_each size * count) behind)) ≡ true
  pub segments : or_none (segments_of size is_kind (kind ∷ count ∷ behind))
      ≡ record { kind = kind; numbers = numbers_in size (take (octets_each size * count) behind) } ∷ or_none (segments_of size is_kind (drop (octets_each size * count) behind))

front_is : (s : Segment) (path : Option (List Segment)) → is_some (with_front s path) ≡ true → (is_some path ≡ true) × (or_none (with_front s path) ≡ s ∷ or_none path)
front_is s None e = cc
front_is s (Some path) e = (refl, refl)

pub front : (size : AsSize) (is_kind : ℕ → Bool) (kind count : ℕ) (behind : List ℕ) → is_some (segments_of size is_kind (kind ∷ count ∷ behind)) ≡ true → Front size is_kind kind count behind
front size is_kind kind count behind whole = by_test (begins_segment size is_kind kind count behind) refl whole
  where
    n : ℕ
    n = octets_each size * count

    s : Segment
    s = record { kind = kind; numbers = numbers_in size (take n behind) }

    rest : Option (List Segment)
    rest = segments_behind size is_kind n behind

    by_test : (b : Bool) → begins_segment size is_kind kind count behind ≡ b → is_some (cond b (with_front s rest) None) ≡ true → Front size is_kind kind count behind
    by_test false t e = cc
    by_test true t e =
        let both = front_is s rest e in
        let skipped = skip_segments size is_kind n behind in
        record {
          here = begins size is_kind kind count behind t;
          whole = ap is_some (sym skipped) ∙ both.0;
          segments = ap (λ b. or_none (cond b (with_front s rest) None)) t ∙ both.1 ∙ ap (λ path. s ∷ or_none path) skipped;
        }

pub two_at_front : (octets : List ℕ) → 2 ≤ length octets → octets ≡ get_or octets 0 0 ∷ get_or octets 1 0 ∷ drop 2 octets
two_at_front [] h = absurd (omega arith)
two_at_front (a ∷ []) h = absurd (omega arith)
two_at_front (a ∷ b ∷ octets) h = refl

-- the front of octets of which two are looked at
pub front_at : (size : AsSize) (confederations : Bool) (octets : List ℕ) → 2 ≤ length octets → IsWhole size confederations octets → Front size (segment_kinds confederations) (get_or octets 0 0) (get_or octets 1 0) (drop 2 octets)
front_at size confederations octets long whole =
    let P : List ℕ → Type 0 = λ octets. IsWhole size confederations octets in
    front size (segment_kinds confederations) (get_or octets 0 0) (get_or octets 1 0) (drop 2 octets) (subst P (two_at_front octets long) whole)

-- the segment as the code names its parts
pub cut_of : (size : AsSize) (confederations : Bool) (octets behind : List ℕ) (each counted : ℕ) (s : RawSegment) → 2 ≤ length octets → IsWhole size confederations octets
    → s.kind ≡ get_or octets 0 0 → s.count ≡ get_or octets 1 0 → behind ≡ drop 2 octets → each ≡ octets_each size → counted ≡ s.count → s.numbers.now ≡ take (each * counted) behind → s.rest.now ≡ drop (each * counted) behind
    → IsCut size confederations octets s
cut_of size confederations octets behind each counted s long whole kind_is count_is behind_is each_is counted_is numbers_is rest_is =
    let f = front_at size confederations octets long whole in
    let n : ℕ = octets_each size * get_or octets 1 0 in
    let n_is : each * counted ≡ n = λ i. each_is i * (counted_is ∙ count_is) i in
    let numbers : s.numbers.now ≡ take n (drop 2 octets) = numbers_is ∙ (λ i. take (n_is i) (behind_is i)) in
    let rest : s.rest.now ≡ drop n (drop 2 octets) = rest_is ∙ (λ i. drop (n_is i) (behind_is i)) in
    record {
      kind = ap (segment_kinds confederations) kind_is ∙ f.here.kind_is;
      some = subst (λ (c : ℕ). 0 < c) (sym count_is) f.here.some;
      octets = ap length numbers ∙ length-take-le n (drop 2 octets) f.here.room ∙ ap (λ c. octets_each size * c) (sym count_is);
      whole = ap (λ octets. is_some (segments_of size (segment_kinds confederations) octets)) rest ∙ f.whole;
      segments = ap (segments_in size confederations) (two_at_front octets long) ∙ f.segments
          ∙ (λ i. record { kind = sym kind_is i; numbers = numbers_in size (sym numbers i) } ∷ segments_in size confederations (sym rest i));
    }

-- where no segment is left
pub none_left : (size : AsSize) (confederations : Bool) (octets : List ℕ) → length octets < 2 → IsWhole size confederations octets → segments_in size confederations octets ≡ []
none_left size confederations [] h whole = refl
none_left size confederations (o ∷ []) h whole = cc
none_left size confederations (a ∷ b ∷ octets) h whole = absurd (omega arith)

-- ---- octets of octets

pub octets_taken : (xs : List ℕ) (n i : ℕ) → ((k : ℕ) → slice_index xs k < 256) → slice_index (take n xs) i < 256
octets_taken [] zero i h = omega arith
octets_taken [] (suc n) i h = omega arith
octets_taken (x ∷ xs) zero i h = omega arith
octets_taken (x ∷ xs) (suc n) zero h = h 0
octets_taken (x ∷ xs) (suc n) (suc i) h = octets_taken xs n i (λ k. h (suc k))

pub octets_left : (xs : List ℕ) (n i : ℕ) → ((k : ℕ) → slice_index xs k < 256) → slice_index (drop n xs) i < 256
octets_left xs zero i h = h i
octets_left [] (suc n) i h = omega arith
octets_left (x ∷ xs) (suc n) i h = octets_left xs n i (λ k. h (suc k))
