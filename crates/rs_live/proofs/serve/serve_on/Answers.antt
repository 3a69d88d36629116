use Rattle.std.proofs.Common.{ap, ◌∙◌, refl, sym, subst, Ok}
use Rattle.rs_live.specs.declared.live_link.Phase.{Phase}
use Rattle.rs_live.specs.declared.live_link.Stage.TheVariants as stages
use Rattle.rs_live.specs.Handled.{AreKept, IsServed}
use Rattle.rs_live.specs.Keeping.{Agrees, at, held_of}
use Rattle.rs_live.proofs.Agreeing.Rounds.{settled}
use Rattle.rs_live.proofs.Handling.Calls.{at_phase, so}
use Rattle.rs_live.proofs.serve.serve_on.Goals as goal

pub loop-init : goal.loop-init
loop-init g c = record {
  same_ports = c.begin.ensures.leaves.same_ports;
  phase = λ p. ap (λ (w : Phase). w.stage) c.begin.ensures.leaves.phase ∙ p;
  handled = λ p r. (c.begin.ensures.leaves.failed ∙ r.0, c.begin.ensures.handled r.1);
}

pub loop-preserved : goal.loop-preserved
loop-preserved g c = record {
  same_ports = c.show.ensures.leaves.same_ports ∙ c.report.ensures.same_ports ∙ c.play_round.ensures.same_ports ∙ c.reload-rounds.ensures.same_ports ∙ c.begin_round.ensures.same_ports ∙ c.loop.invariant.same_ports;
  phase = λ p. ap (λ (w : Phase). w.stage) (c.show.ensures.leaves.phase ∙ c.report.ensures.phase) ∙ c.in-Ok.ensures.over refl;
  handled = λ p r.
      let i = c.loop.invariant.handled p r in
      let read = c.reload-rounds.ensures.handled c.begin_round.ensures.stage (c.if-not-begin_round.ensures.ready refl (c.loop.invariant.phase p) i.1) in
      let played = c.in-Ok.ensures.ok refl (c.reload-rounds.ensures.failed ∙ c.begin_round.ensures.failed ∙ i.0, read) in
      (c.show.ensures.leaves.failed ∙ c.report.ensures.failed ∙ played.0, c.show.ensures.handled (c.report.ensures.handled played.1));
}

pub returns-then-not-begin_round-clause-served : goal.returns-then-not-begin_round-clause-served
returns-then-not-begin_round-clause-served g c p r = let i = c.loop.invariant.handled p r in c.if-not-begin_round.ensures.broken refl (c.loop.invariant.phase p) i.1

pub returns-then-is_done-clause-served : goal.returns-then-is_done-clause-served
returns-then-is_done-clause-served g c p r =
    let i = c.loop.invariant.handled p r in
    let read = c.reload-rounds.ensures.handled c.begin_round.ensures.stage (c.if-not-begin_round.ensures.ready refl (c.loop.invariant.phase p) i.1) in
    let played = c.in-Ok.ensures.ok refl (c.reload-rounds.ensures.failed ∙ c.begin_round.ensures.failed ∙ i.0, read) in
    let over = ap (λ (w : Phase). w.stage) (c.show.ensures.leaves.phase ∙ c.report.ensures.phase) ∙ c.in-Ok.ensures.over refl in
    so g.P.Ports.asked (AreKept (held_of c.show.new.self.connections.now.items) (at stages.Over c.show.new.self.phase)) (IsServed c.args.limits.sessions (Ok tt)) _ (λ operations k. (k.0, settled _ c.show.new.self.phase operations k.1, c.is_done.ensures c.if-is_done.true operations (subst (λ s. Agrees (held_of c.show.new.self.connections.now.items) (at s c.show.new.self.phase) operations) (sym over) k.1))) (at_phase g.P.Ports.asked c.show.new.self stages.Over over (c.show.ensures.handled (c.report.ensures.handled played.1)))
