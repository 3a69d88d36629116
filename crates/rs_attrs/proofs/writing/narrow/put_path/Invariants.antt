use Rattle.std.specs.List.{AllByRecursion}
use Rattle.rs_attrs.specs.Paths.{four_octets, is_set_or_sequence, IsSegment}
use Rattle.rs_attrs.specs.Writing.{path_in}
use Rattle.rs_attrs.proofs.Written.LeftToWrite.{LeftToWrite}
use Rattle.rs_attrs.proofs.Paths.NarrowPath.{narrow_segment}
use Rattle.rs_attrs.proofs.writing.narrow.put_path.Given as goal

abbrev pub invariant-loop-segment : goal.invariant-loop-segment
invariant-loop-segment l =
    AllByRecursion (IsSegment four_octets is_set_or_sequence) l.segment-iterator
    × LeftToWrite narrow_segment (path_in l.fn.path) l.fn.at l.fn.out l.segment-iterator l.at l.out
