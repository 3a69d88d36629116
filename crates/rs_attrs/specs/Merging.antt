-- Paths taken apart from the front, and put together.
use Rattle.std.specs.Prelude.{◌≡◌, ℕ, ◌*◌, ◌<◌, ◌==◌, Bool, true, false, List, [], ◌∷◌, length, filter, Option, Some, None, is_some}
use Rattle.rs_attrs.specs.declared.segments.RawSegment.{RawSegment}
use Rattle.rs_attrs.specs.Spellings.{Spelling}
use Rattle.rs_attrs.specs.Paths.{Segment, AsSize, octets_each, numbers_in, segments_of, or_none, is_set_or_sequence}
use Rattle.rs_attrs.specs.Walking.{segment_kinds}

abbrev pub segments_in : AsSize → Bool → List ℕ → List Segment
segments_in size confederations value = or_none (segments_of size (segment_kinds confederations) value)

-- the value is a well-formed path
abbrev pub IsWhole : AsSize → Bool → List ℕ → Type 0
IsWhole size confederations value = is_some (segments_of size (segment_kinds confederations) value) ≡ true

-- without the segments of a confederation
abbrev pub plain : List Segment → List Segment
plain path = filter (λ s. is_set_or_sequence s.kind) path

abbrev pub segment_in : AsSize → RawSegment → Segment
segment_in size s = record { kind = s.kind; numbers = numbers_in size s.numbers.now }

-- the path is this segment and what follows it
pub record IsCut (size : AsSize) (confederations : Bool) (path : List ℕ) (s : RawSegment) : Type 0 where
  pub kind : segment_kinds confederations s.kind ≡ true
  pub some : 0 < s.count
  pub octets : length s.numbers.now ≡ octets_each size * s.count
  pub whole : IsWhole size confederations s.rest.now
  pub segments : segments_in size confederations path ≡ segment_in size s ∷ segments_in size confederations s.rest.now

-- whether the rest is a row of segments; with no segment at the front, whether no octet is left
abbrev pub is_whole_behind : AsSize → Bool → List ℕ → Option RawSegment → Bool
is_whole_behind size confederations value None = length value == 0
is_whole_behind size confederations value (Some s) = is_some (segments_of size (segment_kinds confederations) s.rest.now)

-- AS4_PATH's value, where it is there and not ignored
abbrev pub as4_value : Bool → Option Spelling → List ℕ
as4_value false (Some s) = s.value
as4_value _ _ = []
