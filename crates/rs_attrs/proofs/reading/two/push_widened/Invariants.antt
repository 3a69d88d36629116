use Rattle.std.proofs.Common.{length}
use Rattle.rs_attrs.proofs.Paths.Widening.{Widening}
use Rattle.rs_attrs.proofs.reading.two.push_widened.Given as goal

abbrev pub invariant-loop-rest : goal.invariant-loop-rest
invariant-loop-rest l = Widening l.fn.values.items l.fn.numbers l.values.items l.rest

abbrev pub decreases-loop-rest : goal.decreases-loop-rest
decreases-loop-rest l = length l.rest
