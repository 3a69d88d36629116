use Rattle.rs_core.proofs.Drives.Continuing.{turned}
use Rattle.rs_core.proofs.driving.turn.Goals as goal

pub returns-clause-answers : goal.returns-clause-answers
returns-clause-answers g c = turned g.L.Link.happens _ _ _ _ c.turn.ensures.clients c.turn.ensures.turned c.turn.ensures.refused_only_up c.tell_refused.ensures.told
