use Rattle.std.proofs.Common.{[], refl}
use Rattle.rs_core.specs.declared.links.Event.TheVariants.{Turn, Stop}
use Rattle.rs_core.specs.Drives.Steps.{Happened}
use Rattle.rs_live.specs.declared.live_link.Stage.TheVariants as stages
use Rattle.rs_live.proofs.Handling.Calls.{at_phase, follows}
use Rattle.rs_live.proofs.Handling.Connections.{does}
use Rattle.rs_live.proofs.Handling.Rounds.{turns}
use Rattle.rs_live.proofs.live_link.LiveLink.turn.Goals as goal

pub returns-then-is_wide-self-clause-answers : goal.returns-then-is_wide-self-clause-answers
returns-then-is_wide-self-clause-answers g c piece p r text = follows g.P.Ports.asked (Happened Stop []) _ _ _ _ r.0 refl refl (does g.P.Ports.asked _ _ (Happened Stop []) _ tt tt r.1)

pub returns-clause-answers : goal.returns-clause-answers
returns-clause-answers g c piece p r text = follows g.P.Ports.asked (Happened Turn []) _ _ _ _ r.0 refl refl (turns g.P.Ports.asked _ c.args.self.now.phase _ (at_phase g.P.Ports.asked c.args.self.now stages.Turn p r.1))
