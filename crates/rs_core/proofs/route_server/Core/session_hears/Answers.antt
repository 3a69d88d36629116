use Rattle.std.proofs.Common.{[]}
use Rattle.rs_core.specs.Session.Hearing.{takes_in, without_change}
use Rattle.rs_core.proofs.Run.Acting.{alone_follows}
use Rattle.rs_core.proofs.route_server.Core.session_hears.Goals as goal

pub returns-clause-alone : goal.returns-clause-alone
returns-clause-alone c = λ s h knows. c.session_hears_with.ensures.heard s h (takes_in s c.args.c (without_change c.args.heard) h) (alone_follows s c.args.c c.args.heard [] h) knows
