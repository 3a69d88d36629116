use Rattle.std.proofs.Common.{◌≡◌}
use Rattle.rs_workers.proofs.sharing.adopt_from.Given as goal

abbrev pub invariant-loop-place : goal.invariant-loop-place
invariant-loop-place l = l.outlet ≡ l.fn.outlet
