use Rattle.std.proofs.Common.{◌≡◌, ap, refl, subst, sym, ◌∙◌}
use Rattle.rs_live.specs.declared.live_link.Phase.{Phase}
use Rattle.rs_live.specs.declared.live_link.LiveLink.{LiveLink}
use Rattle.rs_live.specs.declared.live_link.Stage.TheVariants as stages
use Rattle.rs_live.specs.Handled.{IsRunning}
use Rattle.rs_live.proofs.Handling.Calls.{left_running}
use Rattle.rs_live.proofs.Handling.Rounds.{moves_to}
use Rattle.rs_live.proofs.live_link.LiveLink.read_on.Goals.{then-self-le-OCTETS_A_TURN+else-loop-test, then-self-le-OCTETS_A_TURN+then-loop-test+then-not-has_to_read, else-self-le-OCTETS_A_TURN}
use Rattle.rs_live.proofs.live_link.LiveLink.read_on.Goals as goal

pub returns-in-Some-clause-answers : goal.returns-in-Some-clause-answers
returns-in-Some-clause-answers g c p r = c.in-Some.ensures.answers (ap (λ (w : Phase). w.stage) c.has_to_read.ensures.phase ∙ c.loop.invariant.phase p) (left_running g.P.Ports.asked _ _ c.has_to_read.ensures (c.loop.invariant.answers p r))

pub loop-preserved : goal.loop-preserved
loop-preserved g c = record {
  same_ports = c.in-None.ensures.same_ports ∙ c.has_to_read.ensures.same_ports ∙ c.loop.invariant.same_ports;
  phase = λ p. c.in-None.ensures.stage ∙ ap (λ (w : Phase). w.stage) c.has_to_read.ensures.phase ∙ c.loop.invariant.phase p;
  answers = λ p r. c.in-None.ensures.answers (ap (λ (w : Phase). w.stage) c.has_to_read.ensures.phase ∙ c.loop.invariant.phase p) (left_running g.P.Ports.asked _ _ c.has_to_read.ensures (c.loop.invariant.answers p r));
}

pub returns-clause-answers : goal.returns-clause-answers
returns-clause-answers g c p r =
    let IsSo = λ (x : LiveLink _). (x.phase.stage ≡ stages.Read) × IsRunning g.P.Ports.asked x in
    let k : IsSo c.if-self-le-OCTETS_A_TURN.self = elim c.if-self-le-OCTETS_A_TURN.branch [
      | then-self-le-OCTETS_A_TURN+else-loop-test w ↦ subst IsSo (sym w.self-is) (w.loop.invariant.phase p, w.loop.invariant.answers p r)
      | then-self-le-OCTETS_A_TURN+then-loop-test+then-not-has_to_read w ↦ subst IsSo (sym w.self-is) (ap (λ (x : Phase). x.stage) w.has_to_read.ensures.phase ∙ w.loop.invariant.phase p, left_running g.P.Ports.asked _ _ w.has_to_read.ensures (w.loop.invariant.answers p r))
      | else-self-le-OCTETS_A_TURN w ↦ subst IsSo (sym w.self-is) (p, r)
    ] in
    moves_to g.P.Ports.asked c.if-self-le-OCTETS_A_TURN.self stages.Read stages.Moment (λ k. refl) (λ operations x. tt) (λ (e : stages.Moment ≡ stages.Over). cc) tt k.0 k.1
