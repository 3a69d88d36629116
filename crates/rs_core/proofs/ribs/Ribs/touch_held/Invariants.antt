use Rattle.rs_core.specs.Touched.Touches.{IsTouchedWhereHeld}
use Rattle.rs_core.proofs.Run.Loops.{IsWalked, IsOtherThan}
use Rattle.rs_core.proofs.ribs.Ribs.touch_held.Given as goal

abbrev pub invariant-loop-d : goal.invariant-loop-d
invariant-loop-d l = IsWalked (IsOtherThan l.c l.fn.self.tables (IsTouchedWhereHeld l.fn.self.tables l.c)) l.d l.fn.self l.self
