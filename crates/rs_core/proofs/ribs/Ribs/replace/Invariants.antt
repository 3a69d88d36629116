use Rattle.rs_core.specs.Touched.Turns.{IsMarked}
use Rattle.rs_core.proofs.Run.Loops.{IsWalked}
use Rattle.rs_core.proofs.ribs.Ribs.replace.Given as goal

abbrev pub invariant-loop-c : goal.invariant-loop-c
invariant-loop-c l = IsWalked (λ c. IsMarked l.initial.self.tables) l.c l.initial.self l.self
