use Rattle.std.proofs.Common.{refl, below_more, arith}
use Rattle.rs_octets.proofs.NameList.{place, place_fits, not_here}
use Rattle.rs_octets.proofs.notification.Notification.named.Goals as goal

pub loop-name-preserved : goal.loop-name-preserved
loop-name-preserved c =
    below_more _ _ c.loop-name.invariant
    (not_here c.args.code c.args.sub c.loop-name.name-index _ (λ is. let held = c.if-has.ensures.1 is in cc))

pub returns-clause-none : goal.returns-clause-none
returns-clause-none c = λ name is. c.loop-name.invariant (place name) (omega (arith, place_fits name, c.loop-name-test.false)) name refl is
