use Rattle.std.proofs.Common.{◌<◌, ◌≤◌, ◌∷◌, arith}
use Rattle.rs_core.specs.Core.{client_count}
use Rattle.rs_core.specs.Run.Moves.{Commanded}
use Rattle.rs_core.specs.Drives.Courses.{course}
use Rattle.rs_core.specs.Drives.Answers.{Answers, Commands}
use Rattle.rs_core.specs.declared.links.Event.TheVariants as events
use Rattle.rs_core.proofs.Drives.Continuing.{goes, passes, over_client}
use Rattle.rs_core.proofs.driving.obey.Goals as goal

pub returns-then-c-clients-clause-answers : goal.returns-then-c-clients-clause-answers
returns-then-c-clients-clause-answers g c =
    let here : c.args.c < client_count c.args.core.now = omega (arith, c.if-c-clients.true, c.clients.ensures.count) in
    goes g.L.Link.happens _ _ _ _ (Answers _ (events.Commanded c.args.c c.args.command)) (λ s. s) (λ r. Commanded c.args.c c.args.command ∷ r)
    (λ first s l. l) (λ run h. c.command.ensures.commanded run h)
    (λ s run h. Commands c.args.c c.args.command (course _ s run h) _ (record { count = c.command.ensures.count; agrees = c.command.ensures.commanded run h }) here)

pub returns-else-c-clients-clause-answers : goal.returns-else-c-clients-clause-answers
returns-else-c-clients-clause-answers g c =
    let over : client_count c.args.core.now ≤ c.args.c = omega (arith, c.if-c-clients.false, c.clients.ensures.count) in
    passes g.L.Link.happens c.args.core.now c.args.link.now (events.Commanded c.args.c c.args.command) _ (over_client _ _ over)
