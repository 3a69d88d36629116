use Rattle.std.proofs.Common.{refl, ◌∙◌, Some}
use Rattle.rs_core.specs.Drives.Steps.{Offer}
use Rattle.rs_live.proofs.Handling.Calls.{follows}
use Rattle.rs_live.proofs.Noticed.{still_follows}
use Rattle.rs_live.proofs.sink.LiveLinkSink.offer.Goals as goal

pub returns-clause-step : goal.returns-clause-step
returns-clause-step g c = (
  c.observe.ensures.leaves.same_ports ∙ c.hand-count.ensures.leaves.same_ports,
  λ f h. still_follows g.P.Ports.asked _ _ (Offer _ _ (Some c.hand-count.result)) c.observe.ensures.leaves c.observe.ensures.asked
      (follows g.P.Ports.asked (Offer _ _ (Some c.hand-count.result)) _ _ _ _ (c.hand-count.ensures.leaves.failed ∙ f) refl refl (c.hand-count.ensures.kept h)),
)
