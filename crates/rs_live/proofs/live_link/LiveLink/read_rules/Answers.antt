use Rattle.std.proofs.Common.{◌≡◌, ap, refl, ◌∙◌}
use Rattle.rs_live.specs.declared.live_link.Phase.{Phase}
use Rattle.rs_live.specs.declared.live_link.Stage.TheVariants as stages
use Rattle.rs_live.proofs.Handling.Calls.{at_phase}
use Rattle.rs_live.proofs.Handling.Rounds.{goes_early}
use Rattle.rs_live.proofs.live_link.LiveLink.read_rules.Goals as goal

pub returns-clause-handled : goal.returns-clause-handled
returns-clause-handled g c p h = goes_early g.P.Ports.asked _ stages.Start stages.Rules c.fetch.new.self.phase _ (λ k. refl) (λ operations x. tt) (λ (e : stages.Rules ≡ stages.Over). cc) (λ s. s) (at_phase g.P.Ports.asked c.fetch.new.self stages.Start (ap (λ (w : Phase). w.stage) c.fetch.ensures.leaves.phase ∙ p) (c.fetch.ensures.handled h))

pub returns-clause-ordered : goal.returns-clause-ordered
returns-clause-ordered g c n p h = goes_early g.P.Ports.asked _ (stages.Orders n) stages.Rules c.fetch.new.self.phase _ (λ k. refl) (λ operations x. tt) (λ (e : stages.Rules ≡ stages.Over). cc) (λ s. s) (at_phase g.P.Ports.asked c.fetch.new.self (stages.Orders n) (ap (λ (w : Phase). w.stage) c.fetch.ensures.leaves.phase ∙ p) (c.fetch.ensures.ordered h))
