use Rattle.rs_core.proofs.Drives.Continuing.{turned}
use Rattle.rs_core.proofs.driving.turn_with.Goals as goal

pub returns-clause-answers : goal.returns-clause-answers
returns-clause-answers g c = turned g.L.Link.happens _ _ _ _ c.turn_with.ensures.clients c.turn_with.ensures.turned c.turn_with.ensures.refused_only_up c.tell_refused.ensures.told
