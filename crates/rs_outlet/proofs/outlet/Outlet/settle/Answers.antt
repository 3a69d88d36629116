use Rattle.rs_outlet.proofs.SameRows.{same_rows_kept}
use Rattle.rs_outlet.proofs.outlet.Outlet.settle.Goals as goal

pub invariant_of-self : goal.invariant_of-self
invariant_of-self c = same_rows_kept c.self.inside c.settle.new.self c.settle.ensures.rows c.settle.ensures.used c.self.invariant
