use Rattle.std.proofs.Common.{[], refl, ap, ◌∙◌, arith}
use Rattle.rs_core.specs.declared.links.Event.TheVariants.{Lost}
use Rattle.rs_core.specs.Drives.Steps.{Happened}
use Rattle.rs_live.specs.declared.live_link.Phase.{Phase}
use Rattle.rs_live.specs.declared.live_link.Stage.TheVariants as stages
use Rattle.rs_live.proofs.Handling.Calls.{at_phase, follows}
use Rattle.rs_live.proofs.Handling.Writing.{breaks_down}
use Rattle.rs_live.proofs.Handling.Rounds.{leaves}
use Rattle.rs_live.proofs.live_link.LiveLink.handed.Goals as goal

pub returns-in-Err-clause-answers : goal.returns-in-Err-clause-answers
returns-in-Err-clause-answers g c piece p r text = follows g.P.Ports.asked (Happened (Lost _) []) _ _ _ _ (c.lose.ensures.leaves.failed ∙ c.write_on.ensures.leaves.failed ∙ r.0) c.lose.ensures.held c.lose.ensures.leaves.phase
    (breaks_down g.P.Ports.asked _ _ c.args.c _ (Happened (Lost _) []) _ _ c.lose.ensures.asked refl
    (c.in-Err.ensures.broke (leaves g.P.Ports.asked _ c.args.self.now.phase c.args.c _ _ (omega (arith, c.saturating_add.ensures)) (at_phase g.P.Ports.asked c.args.self.now (stages.Handed c.args.c) p r.1))))

pub returns-in-Ok-clause-answers : goal.returns-in-Ok-clause-answers
returns-in-Ok-clause-answers g c piece p r = c.written.ensures.answers piece (ap (λ (w : Phase). w.stage) c.write_on.ensures.leaves.phase ∙ ap (λ n. stages.Room n) c.saturating_add.ensures) (
  c.write_on.ensures.leaves.failed ∙ r.0,
  c.in-Ok.ensures.ok refl (leaves g.P.Ports.asked _ c.args.self.now.phase c.args.c _ _ (omega (arith, c.saturating_add.ensures)) (at_phase g.P.Ports.asked c.args.self.now (stages.Handed c.args.c) p r.1)),
)
