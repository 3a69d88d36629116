use Rattle.rs_window.proofs.Starts.{starts}
use Rattle.rs_window.proofs.answers.put_refusal.Goals as goal

pub returns : goal.returns
returns c = starts 12 _ _ _ _ _ c.requires.empty c.put.ensures c.put-2.ensures c.put-3.ensures c.refusal_head.ensures.whole c.refusal_head.ensures.status
