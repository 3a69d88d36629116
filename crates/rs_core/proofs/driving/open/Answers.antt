use Rattle.std.proofs.Common.{◌<◌, ◌≤◌, ◌∷◌, sym, subst, arith}
use Rattle.rs_core.specs.Core.{client_count}
use Rattle.rs_core.specs.Run.Agreeing.{Agrees}
use Rattle.rs_core.specs.declared.route_server.Core.{Core}
use Rattle.rs_core.specs.Run.Moves.{Came}
use Rattle.rs_core.specs.Drives.Steps.{Begin, Busy}
use Rattle.rs_core.specs.Drives.Courses.{course}
use Rattle.rs_core.specs.Drives.Answers.{Answers, Begins, Declines}
use Rattle.rs_core.specs.declared.links.Event.TheVariants as events
use Rattle.rs_core.proofs.Drives.Leading.{led_same, led_once}
use Rattle.rs_core.proofs.Drives.Continuing.{goes, answers_by, passes, over_client}
use Rattle.rs_core.proofs.driving.open.Goals as goal

pub returns-then-c-clients-clause-led : goal.returns-then-c-clients-clause-led
returns-then-c-clients-clause-led g c = led_same g.L.Link.happens _

pub returns-in-Ok-clause-led : goal.returns-in-Ok-clause-led
returns-in-Ok-clause-led g c = led_once g.L.Link.happens _ _ _ c.begin.ensures tt

pub returns-in-Err-clause-led : goal.returns-in-Err-clause-led
returns-in-Err-clause-led g c = led_once g.L.Link.happens _ _ _ c.busy.ensures tt

pub returns-then-c-clients-clause-answers : goal.returns-then-c-clients-clause-answers
returns-then-c-clients-clause-answers g c =
    let over : client_count c.args.core.now ≤ c.args.c = omega (arith, c.if-c-clients.true, c.clients.ensures.count) in
    passes g.L.Link.happens c.args.core.now c.args.link.now (events.Opened c.args.c) _ (over_client _ _ over)

pub returns-in-Ok-clause-answers : goal.returns-in-Ok-clause-answers
returns-in-Ok-clause-answers g c =
    let here : c.args.c < client_count c.args.core.now = omega (arith, c.if-c-clients.false, c.clients.ensures.count) in
    goes g.L.Link.happens _ _ _ _ (Answers _ (events.Opened c.args.c)) (λ s. Begin c.args.c ∷ s) (λ r. Came c.args.c ∷ r)
    (λ first s l. (c.args.link.now, l, c.begin.ensures)) (λ run h. c.in-Ok.ensures.came run h)
    (λ s run h. Begins c.args.c (course _ s run h) _ (record { count = c.opened.ensures.count; agrees = c.in-Ok.ensures.came run h }) here (c.in-Ok.ensures.idle run h))

pub returns-in-Err-clause-answers : goal.returns-in-Err-clause-answers
returns-in-Err-clause-answers g c =
    let here : c.args.c < client_count c.args.core.now = omega (arith, c.if-c-clients.false, c.clients.ensures.count) in
    answers_by g.L.Link.happens _ _ _ _ _ (events.Opened c.args.c) (Busy c.args.c) c.in-Err.ensures.unchanged c.busy.ensures
    (λ x is. Declines c.args.c x (subst (λ (k : Core). c.args.c < client_count k) (sym is) here) (c.in-Err.ensures.busy x.run (subst (λ (k : Core). Agrees k x.run) is x.agrees)))
