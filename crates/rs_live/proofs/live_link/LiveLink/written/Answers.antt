use Rattle.std.proofs.Common.{[], refl, ◌∙◌}
use Rattle.rs_core.specs.declared.links.Event.TheVariants.{Lost}
use Rattle.rs_core.specs.Drives.Steps.{Happened}
use Rattle.rs_live.proofs.Handling.Calls.{follows}
use Rattle.rs_live.proofs.Handling.Connections.{loses}
use Rattle.rs_live.proofs.live_link.LiveLink.written.Goals as goal

pub returns-in-Some-clause-answers : goal.returns-in-Some-clause-answers
returns-in-Some-clause-answers g c piece p r text = follows g.P.Ports.asked (Happened (Lost _) []) _ _ _ _ (c.lose.ensures.leaves.failed ∙ r.0) c.lose.ensures.held c.lose.ensures.leaves.phase
    (loses g.P.Ports.asked _ _ c.args.c _ (Happened (Lost _) []) _ _ c.lose.ensures.asked c.in-Some.ensures refl r.1)
