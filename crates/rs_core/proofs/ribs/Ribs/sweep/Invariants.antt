use Rattle.rs_core.proofs.Run.Changing.{IsSwept}
use Rattle.rs_core.proofs.ribs.Ribs.sweep.Given as goal

abbrev pub invariant-loop-step : goal.invariant-loop-step
invariant-loop-step l = IsSwept l.fn.self l.self
