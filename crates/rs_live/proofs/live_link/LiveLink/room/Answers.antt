use Rattle.std.proofs.Common.{◌≡◌, [], None, ap, refl, sym, subst, ◌∙◌, arith}
use Rattle.rs_core.specs.declared.links.Event.TheVariants.{Room}
use Rattle.rs_core.specs.Drives.Steps.{Happened}
use Rattle.rs_live.specs.declared.live_link.Phase.{Phase}
use Rattle.rs_live.specs.declared.live_link.Stage.TheVariants as stages
use Rattle.rs_live.specs.Keeping.{held_by}
use Rattle.rs_live.proofs.Handling.Calls.{at_phase, follows, left_running}
use Rattle.rs_live.proofs.Handling.Rounds.{gives_room, goes_early, is_over, moves_to}
use Rattle.rs_live.proofs.live_link.LiveLink.room.Goals as goal

pub returns-in-Some-clause-answers : goal.returns-in-Some-clause-answers
returns-in-Some-clause-answers g c piece p r text = follows g.P.Ports.asked (Happened (Room _ _) []) _ _ _ _ r.0 refl refl (gives_room g.P.Ports.asked _ c.args.self.now.phase c.args.from c.in-Some.c _ c.in-Some.ensures.found.1 (at_phase g.P.Ports.asked c.args.self.now (stages.Room c.args.from) p r.1))

pub returns-then-has_to_stop-clause-answers : goal.returns-then-has_to_stop-clause-answers
returns-then-has_to_stop-clause-answers g c piece p r =
    let s = left_running g.P.Ports.asked _ _ c.has_to_read.ensures r in
    (s.0, goes_early g.P.Ports.asked _ (stages.Room c.args.from) (stages.Orders 0) c.has_to_read.new.self.phase _ (λ k. refl) (λ operations x lt. absurd (omega (arith, lt))) (λ (e : stages.Orders 0 ≡ stages.Over). cc) (λ x. x) (at_phase g.P.Ports.asked c.has_to_read.new.self (stages.Room c.args.from) (ap (λ (w : Phase). w.stage) c.has_to_read.ensures.phase ∙ p) s.1))

pub returns-else-self-clause-answers : goal.returns-else-self-clause-answers
returns-else-self-clause-answers g c piece p r =
    let s = left_running g.P.Ports.asked _ _ c.has_to_read.ensures r in (
      c.finish_closing.ensures.failed ∙ s.0,
      c.finish_closing.ensures.handled (is_over g.P.Ports.asked _ c.has_to_read.new.self.phase c.args.from _ (λ d ge. subst (λ hs. (held_by d hs).key ≡ None) (sym c.has_to_read.ensures.held) (c.in_default.ensures.none refl d ge)) (c.if-has_to_stop.ensures refl) c.if-self.false
          (at_phase g.P.Ports.asked c.has_to_read.new.self (stages.Room c.args.from) (ap (λ (w : Phase). w.stage) c.has_to_read.ensures.phase ∙ p) s.1)),
    )

pub returns-then-has_to_read-clause-answers : goal.returns-then-has_to_read-clause-answers
returns-then-has_to_read-clause-answers g c piece p r =
    moves_to g.P.Ports.asked c.has_to_read.new.self (stages.Room c.args.from) stages.Read (λ k. refl) (λ operations x. tt) (λ (e : stages.Read ≡ stages.Over). cc) tt (ap (λ (w : Phase). w.stage) c.has_to_read.ensures.phase ∙ p) (left_running g.P.Ports.asked _ _ c.has_to_read.ensures r)

pub returns-then-self-clause-answers : goal.returns-then-self-clause-answers
returns-then-self-clause-answers g c piece p r =
    moves_to g.P.Ports.asked c.has_to_read.new.self (stages.Room c.args.from) stages.Moment (λ k. refl) (λ operations x. tt) (λ (e : stages.Moment ≡ stages.Over). cc) tt (ap (λ (w : Phase). w.stage) c.has_to_read.ensures.phase ∙ p) (left_running g.P.Ports.asked _ _ c.has_to_read.ensures r)
