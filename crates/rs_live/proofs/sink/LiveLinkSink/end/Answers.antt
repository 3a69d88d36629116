use Rattle.std.proofs.Common.{refl, ◌∙◌}
use Rattle.rs_core.specs.Drives.Steps.{End}
use Rattle.rs_live.proofs.Handling.Calls.{follows}
use Rattle.rs_live.proofs.sink.LiveLinkSink.end.Goals as goal

pub returns : goal.returns
returns g c = (
  c.end_session.ensures.leaves.same_ports ∙ c.print.ensures.leaves.same_ports,
  λ f h. follows g.P.Ports.asked (End _) _ _ _ _ (c.end_session.ensures.leaves.failed ∙ c.print.ensures.leaves.failed ∙ f) refl refl (c.end_session.ensures.ended (c.print.ensures.handled tt h)),
)
