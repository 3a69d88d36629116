use Rattle.std.proofs.Common.{◌<◌, ◌≤◌, ◌∷◌, arith}
use Rattle.rs_core.specs.Core.{client_count}
use Rattle.rs_core.specs.Run.Moves.{Left}
use Rattle.rs_core.specs.Drives.Courses.{course}
use Rattle.rs_core.specs.Drives.Answers.{Answers, Loses}
use Rattle.rs_core.specs.declared.links.Event.TheVariants as events
use Rattle.rs_core.proofs.Drives.Continuing.{goes, passes, over_client}
use Rattle.rs_core.proofs.driving.lose.Goals as goal

pub returns-then-c-clients-clause-answers : goal.returns-then-c-clients-clause-answers
returns-then-c-clients-clause-answers g c =
    let here : c.args.c < client_count c.args.core.now = omega (arith, c.if-c-clients.true, c.clients.ensures.count) in
    goes g.L.Link.happens _ _ _ _ (Answers _ (events.Lost c.args.c)) (λ s. s) (λ r. Left c.args.c ∷ r)
    (λ first s l. l) (λ run h. c.lost.ensures.left run h)
    (λ s run h. Loses c.args.c (course _ s run h) _ (record { becomes = record { count = c.lost.ensures.count; agrees = c.lost.ensures.left run h }; owed = c.lost.ensures.owes }) here)

pub returns-else-c-clients-clause-answers : goal.returns-else-c-clients-clause-answers
returns-else-c-clients-clause-answers g c =
    let over : client_count c.args.core.now ≤ c.args.c = omega (arith, c.if-c-clients.false, c.clients.ensures.count) in
    passes g.L.Link.happens c.args.core.now c.args.link.now (events.Lost c.args.c) _ (over_client _ _ over)
