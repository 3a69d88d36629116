use Rattle.std.proofs.Common.{length}
use Rattle.rs_attrs.specs.Table.{size_in}
use Rattle.rs_attrs.proofs.Paths.PathLength.{Measured}
use Rattle.rs_attrs.proofs.reading.two.path_length.Given as goal

abbrev pub invariant-loop-segment : goal.invariant-loop-segment
invariant-loop-segment l = Measured (size_in l.fn.mode) l.fn.confederations l.fn.path l.length l.rest

abbrev pub decreases-loop-segment : goal.decreases-loop-segment
decreases-loop-segment l = length l.rest
