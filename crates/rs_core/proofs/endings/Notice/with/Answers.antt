use Rattle.rs_core.proofs.Session.Noticing.{noticed}
use Rattle.rs_core.proofs.endings.Notice.with.Goals as goal

pub returns : goal.returns
returns c = noticed c.args.code c.args.sub c.args.said.now c.copy_from_slice.new.self c.min-count.result c.min-count.ensures c.copy_from_slice.ensures.after
