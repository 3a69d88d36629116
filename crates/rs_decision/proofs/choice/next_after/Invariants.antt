use Rattle.rs_decision.proofs.Compared.{IsNextSoFar}
use Rattle.rs_decision.proofs.choice.next_after.Given as goal

abbrev pub invariant-loop-i : goal.invariant-loop-i
invariant-loop-i l = IsNextSoFar l.ranks l.from l.next l.i
