use Rattle.rs_core.proofs.Touched.Touching.{IsTouching}
use Rattle.rs_core.proofs.adj_rib_in.touch_all_of.Given as goal

abbrev pub invariant-loop-prefix : goal.invariant-loop-prefix
invariant-loop-prefix l = IsTouching l.tables l.initial.prefix-iterator l.prefix-iterator l.fn.outlet l.outlet
