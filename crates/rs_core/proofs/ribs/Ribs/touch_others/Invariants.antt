use Rattle.std.proofs.Common.{[], ◌∷◌}
use Rattle.rs_core.specs.Touched.Touches.{IsTouchedAt}
use Rattle.rs_core.proofs.Run.Loops.{IsWalked, IsOtherThan}
use Rattle.rs_core.proofs.ribs.Ribs.touch_others.Given as goal

abbrev pub invariant-loop-d : goal.invariant-loop-d
invariant-loop-d l = IsWalked (IsOtherThan l.c l.fn.self.tables (IsTouchedAt (l.prefix ∷ []))) l.d l.fn.self l.self
