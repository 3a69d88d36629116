use Rattle.rs_live.proofs.Handling.Calls.{asks}
use Rattle.rs_live.proofs.live_link.LiveLink.print.Goals as goal

pub returns-clause-handled : goal.returns-clause-handled
returns-clause-handled g c p h = asks g.P.Ports.asked _ _ _ _ _ c.print.ensures tt p h
