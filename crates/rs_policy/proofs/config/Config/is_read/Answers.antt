use Rattle.std.proofs.Common.{subst}
use Rattle.rs_policy.specs.Noted.{IsRead}
use Rattle.rs_policy.proofs.config.Config.is_read.Goals as goal

pub returns : goal.returns
returns c = subst IsRead c.self.view_is c.self.invariant
