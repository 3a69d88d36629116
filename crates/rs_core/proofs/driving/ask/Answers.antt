use Rattle.rs_core.proofs.Drives.Leading.{led_same}
use Rattle.rs_core.proofs.Drives.Closing.{left_out, stays_in}
use Rattle.rs_core.proofs.driving.ask.Goals as goal

pub returns-then-not-is_closing-clause-led : goal.returns-then-not-is_closing-clause-led
returns-then-not-is_closing-clause-led g c = led_same g.L.Link.happens _

pub returns-then-not-is_closing-clause-ended : goal.returns-then-not-is_closing-clause-ended
returns-then-not-is_closing-clause-ended g c =
    left_out g.L.Link.happens _ _ c.args.closing.now c.remove.new.self c.args.c c.is_closing.result c.is_closing.ensures c.if-not-is_closing.true c.remove.ensures

pub returns-clause-ended : goal.returns-clause-ended
returns-clause-ended g c = stays_in g.L.Link.happens _ _ _ _ c.args.closing.now c.args.c c.end_if_wanted.ensures.ended
