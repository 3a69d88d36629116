use Rattle.std.proofs.Common.{length}
use Rattle.rs_attrs.proofs.Paths.Leading.{Copying}
use Rattle.rs_attrs.proofs.reading.two.push_as4_path.Given as goal

abbrev pub invariant-loop-segment : goal.invariant-loop-segment
invariant-loop-segment l = Copying l.fn.values.items l.fn.path l.values.items l.rest

abbrev pub decreases-loop-segment : goal.decreases-loop-segment
decreases-loop-segment l = length l.rest
