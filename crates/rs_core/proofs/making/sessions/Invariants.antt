use Rattle.std.proofs.Common.{◌≡◌, length}
use Rattle.rs_core.specs.Run.Parts.{HaveHeardNothing}
use Rattle.rs_core.proofs.making.sessions.Given as goal

abbrev pub invariant-loop-c : goal.invariant-loop-c
invariant-loop-c l = (length l.all.items ≡ l.c) × HaveHeardNothing l.config l.all.items
