use Rattle.std.proofs.Common.{◌<◌, ◌≤◌, ◌∷◌, arith}
use Rattle.rs_core.specs.Core.{client_count}
use Rattle.rs_core.specs.Run.Moves.{Heard, Dropped}
use Rattle.rs_core.specs.Drives.Steps.{Memory, End}
use Rattle.rs_core.specs.Drives.Courses.{course}
use Rattle.rs_core.specs.Drives.Answers.{Answers, Hears, Drops}
use Rattle.rs_core.specs.declared.links.Event.TheVariants as events
use Rattle.rs_core.proofs.Drives.Leading.{led_same, led_once, led_by}
use Rattle.rs_core.proofs.Drives.Continuing.{goes, passes, over_piece, over_length}
use Rattle.rs_core.proofs.driving.hear.Goals as goal

pub returns-then-c-clients-clause-led : goal.returns-then-c-clients-clause-led
returns-then-c-clients-clause-led g c = led_same g.L.Link.happens _

pub returns-then-len-gt4096-clause-led : goal.returns-then-len-gt4096-clause-led
returns-then-len-gt4096-clause-led g c = led_same g.L.Link.happens _

pub returns-in-Ok-clause-led : goal.returns-in-Ok-clause-led
returns-in-Ok-clause-led g c = led_same g.L.Link.happens _

pub returns-in-Err-clause-led : goal.returns-in-Err-clause-led
returns-in-Err-clause-led g c = led_by g.L.Link.happens _ _ _ _ (led_once g.L.Link.happens _ _ _ c.memory.ensures tt) c.end.ensures tt

pub returns-then-c-clients-clause-answers : goal.returns-then-c-clients-clause-answers
returns-then-c-clients-clause-answers g c =
    let over : client_count c.args.core.now ≤ c.args.c = omega (arith, c.if-c-clients.true, c.clients.ensures.count) in
    passes g.L.Link.happens c.args.core.now c.args.link.now (events.Octets c.args.c c.args.len) _ (over_piece _ _ c.args.len over)

pub returns-then-len-gt4096-clause-answers : goal.returns-then-len-gt4096-clause-answers
returns-then-len-gt4096-clause-answers g c =
    let over : 4096 < c.args.len = omega (arith, c.if-len-gt4096.true) in
    passes g.L.Link.happens c.args.core.now c.args.link.now (events.Octets c.args.c c.args.len) _ (over_length _ c.args.c _ over)

pub returns-in-Ok-clause-answers : goal.returns-in-Ok-clause-answers
returns-in-Ok-clause-answers g c =
    let here : c.args.c < client_count c.args.core.now = omega (arith, c.if-c-clients.false, c.clients.ensures.count) in
    let within : c.args.len ≤ 4096 = omega (arith, c.if-len-gt4096.false) in
    goes g.L.Link.happens _ _ _ _ (Answers _ (events.Octets c.args.c c.args.len)) (λ s. s) (λ r. Heard c.args.c _ ∷ r)
    (λ first s l. l) (λ run h. c.in-Ok.ensures.heard run h)
    (λ s run h. Hears c.args.c c.args.len (course _ s run h) _ (record { count = c.octets.ensures.count; agrees = c.in-Ok.ensures.heard run h }) here within)

pub returns-in-Err-clause-answers : goal.returns-in-Err-clause-answers
returns-in-Err-clause-answers g c =
    let here : c.args.c < client_count c.args.core.now = omega (arith, c.if-c-clients.false, c.clients.ensures.count) in
    let within : c.args.len ≤ 4096 = omega (arith, c.if-len-gt4096.false) in
    goes g.L.Link.happens _ _ _ _ (Answers _ (events.Octets c.args.c c.args.len)) (λ s. End c.args.c ∷ Memory c.args.c ∷ s) (λ r. Dropped c.args.c _ ∷ r)
    (λ first s l. (c.memory.new.self, (c.args.link.now, l, c.memory.ensures), c.end.ensures)) (λ run h. c.in-Err.ensures.refused run h)
    (λ s run h. Drops c.args.c c.args.len (course _ s run h) _ (record { count = c.octets.ensures.count; agrees = c.in-Err.ensures.refused run h }) here within)
