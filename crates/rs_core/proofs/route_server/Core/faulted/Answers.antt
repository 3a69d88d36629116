use Rattle.rs_core.proofs.Session.OperatorRecords.{watched_read}
use Rattle.rs_core.proofs.route_server.Core.faulted.Goals as goal

pub returns : goal.returns
returns c = λ run h. (watched_read c.args.self.now run c.args.c c.index.result.now c.requires c.index.ensures h).1
