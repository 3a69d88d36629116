use Rattle.std.proofs.Common.{ap, refl, ◌∙◌, sym}
use Rattle.rs_core.specs.Drives.Steps.{Begin}
use Rattle.rs_live.specs.declared.live_link.Stage.TheVariants as stages
use Rattle.rs_live.specs.Keeping.{at}
use Rattle.rs_live.proofs.Agreeing.Rounds.{come_is}
use Rattle.rs_live.proofs.Handling.Calls.{follows, follows_at, kept_at}
use Rattle.rs_live.proofs.Handling.Connections.{begins_none}
use Rattle.rs_live.proofs.sink.LiveLinkSink.begin.Goals as goal

pub returns-in-Some : goal.returns-in-Some
returns-in-Some g c = (
  c.take_on.ensures.leaves.same_ports ∙ c.take_come.ensures.same_ports ∙ c.print.ensures.leaves.same_ports,
  λ f h.
      let w = come_is c.args.c c.in-Some.key c.print.new.self.phase (sym c.take_come.ensures.come ∙ c.in-Some.is) in
      follows g.P.Ports.asked (Begin c.args.c) _ _ _ _ (c.take_on.ensures.leaves.failed ∙ c.take_come.ensures.failed ∙ c.print.ensures.leaves.failed ∙ f) refl (c.take_on.ensures.leaves.phase ∙ c.in-Some.ensures.answered refl)
      (c.take_on.ensures.begun w.0 c.print.new.self.phase w.2 (kept_at g.P.Ports.asked c.print.new.self _ (at (stages.Come c.args.c w.0) c.print.new.self.phase) _ (sym c.take_come.ensures.held) (ap (λ s. at s c.print.new.self.phase) w.1) (sym c.take_come.ensures.unasked) (c.print.ensures.handled tt h))),
)

pub returns-in_default : goal.returns-in_default
returns-in_default g c = (
  c.take_come.ensures.same_ports ∙ c.print.ensures.leaves.same_ports,
  λ f h.
      follows_at g.P.Ports.asked (Begin c.args.c) _ _ _ _ _ (c.take_come.ensures.failed ∙ c.print.ensures.leaves.failed ∙ f) c.take_come.ensures.held (c.in_default.ensures.same refl) c.take_come.ensures.unasked
      (begins_none g.P.Ports.asked _ _ c.args.c _ (sym c.take_come.ensures.come ∙ c.in_default.is) (c.print.ensures.handled tt h)),
)
