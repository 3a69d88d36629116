use Rattle.rs_live.proofs.Handling.Calls.{none_more}
use Rattle.rs_live.proofs.live_link.LiveLink.record.Goals as goal

pub returns-clause-handled : goal.returns-clause-handled
returns-clause-handled g c h = none_more g.P.Ports.asked _ _ _ c.record.ensures h

pub returns-clause-halted : goal.returns-clause-halted
returns-clause-halted g c h = none_more g.P.Ports.asked _ _ _ c.record.ensures h
