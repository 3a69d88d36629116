use Rattle.rs_outlet.proofs.SameRows.{same_rows_kept}
use Rattle.rs_outlet.proofs.outlet.Outlet.adopt.Goals as goal

pub invariant_of-self : goal.invariant_of-self
invariant_of-self c = same_rows_kept c.self.inside c.adopt.new.self c.adopt.ensures.rows c.adopt.ensures.used c.self.invariant
