use Rattle.rs_live.specs.Handled.{AreKept}
use Rattle.rs_live.specs.Keeping.{all_held}
use Rattle.rs_live.proofs.Handling.Calls.{none_more}
use Rattle.rs_live.proofs.live_link.LiveLink.show.Goals as goal

pub returns-clause-handled : goal.returns-clause-handled
returns-clause-handled g c h = none_more g.P.Ports.asked (AreKept (all_held c.args.self.now) c.args.self.now.phase) _ _ c.show-is_unfinished.ensures h
