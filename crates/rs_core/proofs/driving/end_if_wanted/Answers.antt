use Rattle.rs_core.proofs.Drives.Leading.{led_same, led_once}
use Rattle.rs_core.proofs.Drives.Continuing.{kept, closed}
use Rattle.rs_core.proofs.driving.end_if_wanted.Goals as goal

pub returns-then-wants_close-clause-led : goal.returns-then-wants_close-clause-led
returns-then-wants_close-clause-led g c = led_once g.L.Link.happens _ _ _ c.end.ensures tt

pub returns-else-wants_close-clause-led : goal.returns-else-wants_close-clause-led
returns-else-wants_close-clause-led g c = led_same g.L.Link.happens _

pub returns-then-wants_close-clause-ended : goal.returns-then-wants_close-clause-ended
returns-then-wants_close-clause-ended g c =
    let asked = c.wants_close.ensures in
    closed g.L.Link.happens _ _ _ _ _ c.args.c c.wants_close.result (record { owing = asked.owing; unchanged = asked.unchanged; lends = asked.lends }) c.if-wants_close.true
    c.lost.ensures.count c.lost.ensures.left c.lost.ensures.owes c.end.ensures

pub returns-else-wants_close-clause-ended : goal.returns-else-wants_close-clause-ended
returns-else-wants_close-clause-ended g c =
    let asked = c.wants_close.ensures in
    kept g.L.Link.happens _ _ _ c.args.c c.wants_close.result (record { owing = asked.owing; unchanged = asked.unchanged; lends = asked.lends }) c.if-wants_close.false
