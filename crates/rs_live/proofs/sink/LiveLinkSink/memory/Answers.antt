use Rattle.std.proofs.Common.{◌∙◌}
use Rattle.rs_core.specs.Drives.Steps.{Memory}
use Rattle.rs_live.proofs.Handling.Calls.{follows_at}
use Rattle.rs_live.proofs.Handling.Connections.{does}
use Rattle.rs_live.proofs.sink.LiveLinkSink.memory.Goals as goal

pub returns : goal.returns
returns g c = (
  c.note_refused.ensures.same_ports ∙ c.print.ensures.leaves.same_ports,
  λ f h. follows_at g.P.Ports.asked (Memory _) _ _ _ _ _ (c.note_refused.ensures.failed ∙ c.print.ensures.leaves.failed ∙ f) c.note_refused.ensures.held c.note_refused.ensures.phase c.note_refused.ensures.unasked
      (does g.P.Ports.asked _ _ (Memory _) _ tt tt (c.print.ensures.handled tt h)),
)
