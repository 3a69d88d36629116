use Rattle.std.proofs.Common.{◌<◌, ◌≤◌, arith}
use Rattle.rs_core.specs.Core.{client_count}
use Rattle.rs_core.specs.Drives.Courses.{course}
use Rattle.rs_core.specs.Drives.Answers.{Answers, Gives, Fills}
use Rattle.rs_core.specs.declared.links.Event.TheVariants as events
use Rattle.rs_core.proofs.Drives.Leading.{led_same}
use Rattle.rs_core.proofs.Drives.Continuing.{also, passes, over_client}
use Rattle.rs_core.proofs.driving.offering.use_room.Goals as goal

pub returns-else-c-clients-clause-led : goal.returns-else-c-clients-clause-led
returns-else-c-clients-clause-led g c = led_same g.L.Link.happens _

pub returns-then-c-clients-clause-answers : goal.returns-then-c-clients-clause-answers
returns-then-c-clients-clause-answers g c =
    let here : c.args.c < client_count c.args.core.now = omega (arith, c.if-c-clients.true, c.clients.ensures.count) in
    also g.L.Link.happens _ _ _ _ (Gives c.args.c c.args.room) (Answers _ (events.Room c.args.c c.args.room))
    (λ s run h y gives. Fills c.args.c c.args.room (course _ s run h) y here gives) c.give.ensures.gives

pub returns-else-c-clients-clause-answers : goal.returns-else-c-clients-clause-answers
returns-else-c-clients-clause-answers g c =
    let over : client_count c.args.core.now ≤ c.args.c = omega (arith, c.if-c-clients.false, c.clients.ensures.count) in
    passes g.L.Link.happens c.args.core.now c.args.link.now (events.Room c.args.c c.args.room) _ (over_client _ _ over)
