use Rattle.std.proofs.Common.{refl, ◌∙◌, ◌∷◌, sym, ap, subst}
use Rattle.rs_core.specs.Drives.Steps.{Busy}
use Rattle.rs_live.specs.declared.live_link.Phase.{Phase}
use Rattle.rs_live.specs.declared.live_link.Stage.TheVariants as stages
use Rattle.rs_live.specs.declared.ports.Line.TheVariants as lines
use Rattle.rs_live.specs.Calls.{Printed}
use Rattle.rs_live.specs.Keeping.{at, key_come}
use Rattle.rs_live.proofs.Handling.Calls.{follows, follows_at}
use Rattle.rs_live.proofs.Handling.Connections.{turns_away, turns_none_away}
use Rattle.rs_live.proofs.sink.LiveLinkSink.busy.Goals as goal

pub returns-in-Some : goal.returns-in-Some
returns-in-Some g c = (
  c.take_come.ensures.same_ports ∙ c.note_busy.ensures.same_ports ∙ c.print.ensures.leaves.same_ports,
  λ f h.
      follows g.P.Ports.asked (Busy c.args.c) _ _ _ _ (c.take_come.ensures.failed ∙ c.note_busy.ensures.failed ∙ c.print.ensures.leaves.failed ∙ f)
      (c.take_come.ensures.held ∙ c.note_busy.ensures.held ∙ c.print.ensures.leaves.held)
      (c.in-Some.ensures.answered refl ∙ ap (λ (w : Phase). at stages.Accept w) (c.note_busy.ensures.phase ∙ c.print.ensures.leaves.phase))
      (turns_away g.P.Ports.asked _ c.args.self.now.phase c.args.c c.in-Some.key _ _
      (ap (λ (w : Phase). key_come c.args.c w) (sym (c.note_busy.ensures.phase ∙ c.print.ensures.leaves.phase)) ∙ sym c.take_come.ensures.come ∙ c.in-Some.is)
      (λ cs k. c.close.ensures _ (subst (λ p. g.P.Ports.asked p (Printed (lines.Busy c.args.c) ∷ cs)) (sym (c.take_come.ensures.unasked ∙ c.note_busy.ensures.unasked)) (c.print.ensures.asked cs k)))
      h),
)

pub returns-in_default : goal.returns-in_default
returns-in_default g c = (
  c.take_come.ensures.same_ports ∙ c.note_busy.ensures.same_ports ∙ c.print.ensures.leaves.same_ports,
  λ f h.
      follows_at g.P.Ports.asked (Busy c.args.c) _ _ _ _ _ (c.take_come.ensures.failed ∙ c.note_busy.ensures.failed ∙ c.print.ensures.leaves.failed ∙ f) (c.take_come.ensures.held ∙ c.note_busy.ensures.held) (c.in_default.ensures.same refl ∙ c.note_busy.ensures.phase) (c.take_come.ensures.unasked ∙ c.note_busy.ensures.unasked)
      (turns_none_away g.P.Ports.asked _ _ c.args.c _ (ap (λ (w : Phase). key_come c.args.c w) (sym c.note_busy.ensures.phase) ∙ sym c.take_come.ensures.come ∙ c.in_default.is) (c.print.ensures.handled tt h)),
)
