use Rattle.std.proofs.Common.{◌≡◌, [], Ok, refl, sym, subst, ap, ◌∙◌}
use Rattle.rs_core.specs.declared.links.Event.TheVariants.{Opened}
use Rattle.rs_core.specs.Drives.Steps.{Happened}
use Rattle.rs_live.specs.declared.live_link.Phase.{Phase}
use Rattle.rs_live.specs.declared.live_link.Stage.TheVariants as stages
use Rattle.rs_live.specs.Calls.{Accepted, IsAccept, IsGood, IsFailedAccept}
use Rattle.rs_live.specs.Keeping.{at, held_of}
use Rattle.rs_live.proofs.Handling.Calls.{asks, at_phase, end_alone, ends, follows_at, halts}
use Rattle.rs_live.proofs.Handling.Connections.{opens}
use Rattle.rs_live.proofs.Handling.Rounds.{goes_to}
use Rattle.rs_live.proofs.live_link.LiveLink.accepted.Goals as goal

pub returns-in-Err-clause-answers : goal.returns-in-Err-clause-answers
returns-in-Err-clause-answers g c piece p r = halts g.P.Ports.asked piece _ refl (end_alone g.P.Ports.asked IsFailedAccept _ _ _ (ends g.P.Ports.asked IsFailedAccept _ _ _ _ _ c.in-Err.ensures refl tt (c.loop.invariant.answers p r).1))

pub returns-in-Ok-None-clause-answers : goal.returns-in-Ok-None-clause-answers
returns-in-Ok-None-clause-answers g c piece p r =
    let i = c.loop.invariant.answers p r in (
      i.0,
      goes_to g.P.Ports.asked _ stages.Accept stages.Read c.loop.self.phase _ (λ k. refl) (λ operations x. tt) (λ (e : stages.Read ≡ stages.Over). cc) tt
          (asks g.P.Ports.asked _ _ _ _ _ c.in-Ok-None.ensures (subst (λ r. IsGood (Accepted (Ok r))) (sym c.in-Ok-None.field-0-is) refl) tt (at_phase g.P.Ports.asked c.loop.self stages.Accept (c.loop.invariant.phase p) i.1)),
    )

pub returns-in-Some-clause-answers : goal.returns-in-Some-clause-answers
returns-in-Some-clause-answers g c piece p r text =
    let i = c.loop.invariant.answers p r in
    let w = c.in-Some.ensures in
    follows_at g.P.Ports.asked (Happened (Opened c.in-Some.c) []) _ _ _ (at (stages.Come c.in-Some.c c.in-Ok-Some.incoming) c.loop.self.phase) _ (c.welcome.ensures.leaves.failed ∙ i.0) c.welcome.ensures.leaves.held (ap (at (stages.Come c.in-Some.c c.in-Ok-Some.incoming)) c.welcome.ensures.leaves.phase) (w.unasked refl)
    (opens g.P.Ports.asked _ c.loop.self.phase c.in-Some.c c.in-Ok-Some.incoming _ _ _ c.in-Ok-Some.field-0-is w.client w.up c.in-Ok-Some.ensures (at_phase g.P.Ports.asked c.loop.self stages.Accept (c.loop.invariant.phase p) i.1))

pub returns-clause-answers : goal.returns-clause-answers
returns-clause-answers g c piece p r =
    let i = c.loop.invariant.answers p r in
    (i.0, goes_to g.P.Ports.asked _ stages.Accept stages.Read c.loop.self.phase _ (λ k. refl) (λ operations x. tt) (λ (e : stages.Read ≡ stages.Over). cc) tt (at_phase g.P.Ports.asked c.loop.self stages.Accept (c.loop.invariant.phase p) i.1))

pub loop-preserved : goal.loop-preserved
loop-preserved g c = record {
  same_ports = c.welcome.ensures.leaves.same_ports ∙ c.loop.invariant.same_ports;
  phase = λ p. ap (λ (w : Phase). w.stage) c.welcome.ensures.leaves.phase ∙ c.loop.invariant.phase p;
  answers = λ p r.
      let i = c.loop.invariant.answers p r in (
        c.welcome.ensures.leaves.failed ∙ i.0,
        c.in_default.ensures.closed refl (c.loop.invariant.phase p)
            (ends g.P.Ports.asked (IsAccept c.in-Ok-Some.incoming) _ _ _ _ _ c.in-Ok-Some.ensures (ap (λ a. Accepted (Ok a)) c.in-Ok-Some.field-0-is) tt i.1),
      );
}
