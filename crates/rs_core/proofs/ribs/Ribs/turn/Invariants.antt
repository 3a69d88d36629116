use Rattle.rs_outlet.specs.Decided.Precedents.{IsHandover}
use Rattle.rs_outlet.specs.Decided.HeldBy.{tables_of}
use Rattle.rs_core.specs.Touched.Turns.{IsTurn}
use Rattle.rs_core.proofs.Run.Loops.{IsWalked}
use Rattle.rs_core.proofs.ribs.Ribs.turn.Given as goal

abbrev pub invariant-loop-c : goal.invariant-loop-c
invariant-loop-c l = record {
  walked : IsWalked (λ c. IsTurn l.fn.self.config l.fn.self.tables) l.c l.fn.self l.self;
  handover : IsHandover (tables_of l.fn.self.config l.fn.self.tables) l.fn.self.tables l.handover;
}
