use Rattle.std.proofs.Common.{◌≡◌, ◌+◌, length}
use Rattle.std.specs.List.{flat_map}
use Rattle.rs_attrs.specs.Parts.{narrow_path}
use Rattle.rs_attrs.proofs.Paths.NarrowPath.{narrow_segment}
use Rattle.rs_attrs.proofs.writing.narrow.narrow_path_size.Given as goal

abbrev pub invariant-loop-segment : goal.invariant-loop-segment
invariant-loop-segment l = l.size + length (flat_map narrow_segment l.segment-iterator) ≡ length (narrow_path l.path)
