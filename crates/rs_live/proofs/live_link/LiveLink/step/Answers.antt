use Rattle.std.proofs.Common.{◌≡◌, [], refl, sym, subst, ◌∙◌}
use Rattle.rs_core.specs.declared.links.Event.TheVariants.{Rules, Stop}
use Rattle.rs_core.specs.Drives.Steps.{Happened}
use Rattle.rs_live.specs.declared.live_link.Phase.{Phase}
use Rattle.rs_live.specs.declared.live_link.Stage.TheVariants as stages
use Rattle.rs_live.specs.Handled.{Has, AreKept}
use Rattle.rs_live.specs.Keeping.{all_held, at}
use Rattle.rs_live.proofs.Handling.Calls.{at_phase, follows}
use Rattle.rs_live.proofs.Handling.Connections.{come_at, does, passes_over}
use Rattle.rs_live.proofs.Handling.Rounds.{goes_early}
use Rattle.rs_live.proofs.live_link.LiveLink.step.Goals as goal

pub returns-in-Rules-clause-answers : goal.returns-in-Rules-clause-answers
returns-in-Rules-clause-answers g c r text = follows g.P.Ports.asked (Happened Rules text) _ _ _ _ r.0 refl refl (does g.P.Ports.asked _ _ (Happened Rules text) _ tt tt (goes_early g.P.Ports.asked _ stages.Rules stages.Start c.args.self.now.phase _ (λ k. refl) (λ operations x. tt) (λ (e : stages.Start ≡ stages.Over). cc) (λ s. s) (at_phase g.P.Ports.asked c.args.self.now stages.Rules c.in-Rules.is r.1)))

pub returns-in-Come-clause-answers : goal.returns-in-Come-clause-answers
returns-in-Come-clause-answers g c r = (
  c.refuse.ensures.leaves.failed ∙ r.0,
  subst (λ (w : Phase). Has g.P.Ports.asked c.refuse.new.self.ports.now (AreKept (all_held c.refuse.new.self) (at stages.Accept w))) (sym c.refuse.ensures.leaves.phase)
      (subst (λ keys. Has g.P.Ports.asked c.refuse.new.self.ports.now (AreKept keys (at stages.Accept c.args.self.now.phase))) (sym c.refuse.ensures.leaves.held) (passes_over g.P.Ports.asked _ _ _ _ _ _ (come_at c.args.self.now.phase _ _ c.in-Come.is) c.refuse.ensures.asked r.1)),
)

pub returns-in-Over-clause-answers : goal.returns-in-Over-clause-answers
returns-in-Over-clause-answers g c r text = follows g.P.Ports.asked (Happened Stop []) _ _ _ _ r.0 refl refl (does g.P.Ports.asked _ _ (Happened Stop []) _ tt tt r.1)
