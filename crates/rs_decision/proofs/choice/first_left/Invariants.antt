use Rattle.rs_decision.specs.Exits.{is_left}
use Rattle.rs_decision.proofs.Grouped.{IsFirstLeft}
use Rattle.rs_decision.proofs.choice.first_left.Given as goal

abbrev pub invariant-loop-i : goal.invariant-loop-i
invariant-loop-i l = IsFirstLeft (is_left l.exits l.level) l.ranks l.i l.left
