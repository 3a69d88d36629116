use Rattle.std.proofs.Common.{◌≡◌, length}
use Rattle.rs_core.specs.Run.Keeping.{AreBare}
use Rattle.rs_core.proofs.ribs.outlets.Given as goal

abbrev pub invariant-loop-c : goal.invariant-loop-c
invariant-loop-c l = (length l.all.items ≡ l.c) × AreBare l.config.top.extended l.all.items
