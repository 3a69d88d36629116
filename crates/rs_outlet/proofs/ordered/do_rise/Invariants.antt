use Rattle.rs_outlet.proofs.Decided.TouchedList.{RisesBelow}
use Rattle.rs_outlet.proofs.ordered.do_rise.Given as goal

abbrev pub invariant-loop-index : goal.invariant-loop-index
invariant-loop-index l = RisesBelow l.index l.touches
