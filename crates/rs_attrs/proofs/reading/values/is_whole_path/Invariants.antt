use Rattle.std.proofs.Common.{◌≡◌, length}
use Rattle.std.specs.Prelude.{is_some}
use Rattle.rs_attrs.specs.Table.{size_in}
use Rattle.rs_attrs.specs.Paths.{segments_of}
use Rattle.rs_attrs.specs.Walking.{segment_kinds}
use Rattle.rs_attrs.proofs.reading.values.is_whole_path.Given as goal

abbrev pub invariant-loop-segment : goal.invariant-loop-segment
invariant-loop-segment l = is_some (segments_of (size_in l.fn.mode) (segment_kinds l.fn.confederations) l.rest) ≡ is_some (segments_of (size_in l.fn.mode) (segment_kinds l.fn.confederations) l.fn.value)

abbrev pub decreases-loop-segment : goal.decreases-loop-segment
decreases-loop-segment l = length l.rest
