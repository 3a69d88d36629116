use Rattle.rs_policy.proofs.faults.line.Line.+with_digits.Given as goal

abbrev pub decreases-with_digits : goal.decreases-with_digits
decreases-with_digits l = l.number
