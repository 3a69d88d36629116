-- A path is walked a segment at a time.
use Rattle.std.proofs.Common.{◌≡◌, ℕ, ◌*◌, ◌<◌, ◌≤◌, ◌&&◌, Bool, true, false, cond, List, ◌∷◌, length, take, drop, get_or, Option, Some, None, refl, sym, ap, subst, ◌∙◌}
use Rattle.std.specs.Prelude.{is_some}
use Rattle.std.proofs.lemmas.Bool.{lt-ltb, le-leb}
use Rattle.rs_attrs.proofs.Paths.SegmentCut.{two_at_front}
use Rattle.rs_attrs.proofs.Paths.PathLaws.{skip_segments}
use Rattle.rs_attrs.specs.Paths.{AsSize, octets_each, Segment, begins_segment, with_front, segments_behind, segments_of, numbers_in}

front_is_some : (s : Segment) (path : Option (List Segment)) → is_some (with_front s path) ≡ is_some path
front_is_some s None = refl
front_is_some s (Some path) = refl

-- a segment at the front, and what follows it
pub segments_step : (size : AsSize) (is_kind : ℕ → Bool) (kind count : ℕ) (behind : List ℕ) → begins_segment size is_kind kind count behind ≡ true
    → segments_of size is_kind (kind ∷ count ∷ behind)
    ≡ with_front (record { kind = kind; numbers = numbers_in size (take (octets_each size * count) behind) }) (segments_of size is_kind (drop (octets_each size * count) behind))
segments_step size is_kind kind count behind here =
    let segment : Segment = record { kind = kind; numbers = numbers_in size (take (octets_each size * count) behind) } in
    ap (λ b. cond b (with_front segment (segments_behind size is_kind (octets_each size * count) behind)) None) here
    ∙ ap (with_front segment) (skip_segments size is_kind (octets_each size * count) behind)

pub begins_here : (size : AsSize) (is_kind : ℕ → Bool) (kind count : ℕ) (octets : List ℕ) → is_kind kind ≡ true → 0 < count → octets_each size * count ≤ length octets → begins_segment size is_kind kind count octets ≡ true
begins_here size is_kind kind count octets p r s = λ i. p i && lt-ltb 0 count r i && le-leb (octets_each size * count) (length octets) s i

-- a step over a well-formed segment
pub path_step : (size : AsSize) (is_kind : ℕ → Bool) (octets behind after : List ℕ) (kind count n : ℕ) → 2 ≤ length octets → kind ≡ get_or octets 0 0 → count ≡ get_or octets 1 0 → behind ≡ drop 2 octets → n ≡ octets_each size * count
    → is_kind kind ≡ true → 0 < count → n ≤ length behind → after ≡ drop n behind
    → is_some (segments_of size is_kind after) ≡ is_some (segments_of size is_kind octets)
path_step size is_kind octets behind after kind count n long kind_is count_is behind_is n_is p r s after_is =
    let front : octets ≡ kind ∷ count ∷ behind = two_at_front octets long ∙ (λ i. sym kind_is i ∷ sym count_is i ∷ sym behind_is i) in
    let P : ℕ → Type 0 = λ n. n ≤ length behind in
    let here = begins_here size is_kind kind count behind p r (subst P n_is s) in
    let after_here : drop (octets_each size * count) behind ≡ after = ap (λ n. drop n behind) (sym n_is) ∙ sym after_is in
    sym (ap (λ octets. is_some (segments_of size is_kind octets)) front ∙ ap is_some (segments_step size is_kind kind count behind here) ∙ front_is_some _ _ ∙ ap (λ octets. is_some (segments_of size is_kind octets)) after_here)

-- where no well-formed segment begins
pub path_stops : (size : AsSize) (is_kind : ℕ → Bool) (octets behind : List ℕ) (kind count n : ℕ) → 2 ≤ length octets → kind ≡ get_or octets 0 0 → count ≡ get_or octets 1 0 → behind ≡ drop 2 octets → n ≡ octets_each size * count
    → (begins_segment size is_kind kind count behind ≡ false) → is_some (segments_of size is_kind octets) ≡ false
path_stops size is_kind octets behind kind count n long kind_is count_is behind_is n_is none =
    let front : octets ≡ kind ∷ count ∷ behind = two_at_front octets long ∙ (λ i. sym kind_is i ∷ sym count_is i ∷ sym behind_is i) in
    ap (λ octets. is_some (segments_of size is_kind octets)) front
    ∙ ap (λ b. is_some (cond b (with_front (record { kind = kind; numbers = numbers_in size (take (octets_each size * count) behind) }) (segments_behind size is_kind (octets_each size * count) behind)) None)) none
