use Rattle.rs_outlet.proofs.SameRows.{same_rows_kept}
use Rattle.rs_outlet.proofs.outlet.Outlet.puts_off_sharing.Goals as goal

pub invariant_of-self : goal.invariant_of-self
invariant_of-self c = same_rows_kept c.self.inside c.puts_off.new.self c.puts_off.ensures.rows c.puts_off.ensures.used c.self.invariant
