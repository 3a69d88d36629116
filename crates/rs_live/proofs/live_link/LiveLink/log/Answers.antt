use Rattle.rs_live.proofs.Handling.Calls.{asks}
use Rattle.rs_live.proofs.live_link.LiveLink.log.Goals as goal

pub returns-then-shows-clause-handled : goal.returns-then-shows-clause-handled
returns-then-shows-clause-handled g c h = asks g.P.Ports.asked _ _ _ _ _ c.log.ensures tt tt h
