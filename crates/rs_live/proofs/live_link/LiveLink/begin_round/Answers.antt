use Rattle.rs_live.specs.declared.live_link.Stage.TheVariants as stages
use Rattle.rs_live.proofs.Handling.Calls.{at_phase}
use Rattle.rs_live.proofs.Handling.Rounds.{breaks, waits}
use Rattle.rs_live.proofs.live_link.LiveLink.begin_round.Goals as goal

pub returns-in-Ok-clause-ready : goal.returns-in-Ok-clause-ready
returns-in-Ok-clause-ready g c t o h = waits g.P.Ports.asked _ c.args.self.now.phase _ _ _ _ _ c.in-Ok.ensures c.seconds-self.ensures (at_phase g.P.Ports.asked c.args.self.now stages.Over o h)

pub returns-in-Err-clause-broken : goal.returns-in-Err-clause-broken
returns-in-Err-clause-broken g c t o h = breaks g.P.Ports.asked _ c.args.self.now.phase _ _ _ c.in-Err.ensures (at_phase g.P.Ports.asked c.args.self.now stages.Over o h)
