use Rattle.rs_workers.specs.Turned.{ArePlaced}
use Rattle.rs_tests.proofs.workers.placed.Given as goal

abbrev pub invariant-loop-outlet : goal.invariant-loop-outlet
invariant-loop-outlet g l = ArePlaced l.config l.same.items
