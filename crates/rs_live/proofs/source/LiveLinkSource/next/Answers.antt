use Rattle.std.proofs.Common.{[], refl, ◌∙◌}
use Rattle.rs_core.specs.declared.links.Event.TheVariants.{Stop}
use Rattle.rs_core.specs.Drives.Steps.{Happened}
use Rattle.rs_live.proofs.Handling.Calls.{follows}
use Rattle.rs_live.proofs.Handling.Connections.{does}
use Rattle.rs_live.proofs.Noticed.{still_follows, still_running}
use Rattle.rs_live.proofs.source.LiveLinkSource.next.Goals as goal

pub loop-init : goal.loop-init
loop-init g c = record {
  same_ports = c.observe_turn.ensures.leaves.same_ports;
  answers = λ r. still_running g.P.Ports.asked _ _ c.observe_turn.ensures.leaves c.observe_turn.ensures.asked r;
}

pub returns-in-Some : goal.returns-in-Some
returns-in-Some g c = (
  c.observe_event.ensures.leaves.same_ports ∙ c.in-Some.ensures.same_ports ∙ c.loop.invariant.same_ports,
  λ f h. still_follows g.P.Ports.asked _ _ _ c.observe_event.ensures.leaves c.observe_event.ensures.asked (c.in-Some.ensures.answers (c.loop.invariant.answers (f, h)) _),
)

pub loop-preserved : goal.loop-preserved
loop-preserved g c = record {
  same_ports = c.in-None.ensures.same_ports ∙ c.loop.invariant.same_ports;
  answers = λ r. c.in-None.ensures.answers (c.loop.invariant.answers r);
}

pub returns : goal.returns
returns g c = (c.loop.invariant.same_ports, λ f h. let i = c.loop.invariant.answers (f, h) in follows g.P.Ports.asked (Happened Stop []) _ _ _ _ i.0 refl refl (does g.P.Ports.asked _ _ (Happened Stop []) _ tt tt i.1))
