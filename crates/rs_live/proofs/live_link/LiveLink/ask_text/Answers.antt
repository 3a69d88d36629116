use Rattle.rs_live.proofs.Handling.Calls.{asks}
use Rattle.rs_live.proofs.Handling.Orders.{reloads}
use Rattle.rs_live.proofs.live_link.LiveLink.ask_text.Goals as goal

pub returns-clause-handled : goal.returns-clause-handled
returns-clause-handled g c h = asks g.P.Ports.asked _ _ _ _ _ c.text.ensures tt tt h

pub returns-clause-ordered : goal.returns-clause-ordered
returns-clause-ordered g c h = reloads g.P.Ports.asked _ _ _ _ _ _ c.text.ensures h
