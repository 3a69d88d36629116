use Rattle.std.proofs.Common.{refl, ◌∙◌}
use Rattle.rs_core.specs.Drives.Steps.{Replaced}
use Rattle.rs_live.proofs.Handling.Calls.{follows}
use Rattle.rs_live.proofs.Handling.Connections.{does}
use Rattle.rs_live.proofs.sink.LiveLinkSink.ruled.Goals as goal

pub returns : goal.returns
returns g c = (c.report_rules.ensures.leaves.same_ports, λ f h. follows g.P.Ports.asked (Replaced _) _ _ _ _ (c.report_rules.ensures.leaves.failed ∙ f) refl refl (does g.P.Ports.asked _ _ (Replaced _) _ tt tt (c.report_rules.ensures.handled h)))
