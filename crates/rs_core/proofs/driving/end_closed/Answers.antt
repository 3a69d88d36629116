use Rattle.std.proofs.Common.{◌≤◌, ◌<◌, ◌+◌, refl, ◌∙◌, arith}
use Rattle.rs_core.specs.Core.{client_count}
use Rattle.rs_core.specs.Drives.Courses.{course}
use Rattle.rs_core.specs.Drives.Answers.{Ended, Ends, EndsAll}
use Rattle.rs_core.specs.Drives.Closing.{DoesAmong}
use Rattle.rs_core.proofs.Drives.Leading.{led_same, led_on}
use Rattle.rs_core.proofs.Drives.Continuing.{stays, joined, also}
use Rattle.rs_core.proofs.Drives.Closing.{ends_more, ends_to}
use Rattle.rs_core.proofs.driving.end_closed.Goals as goal

pub loop-c-init : goal.loop-c-init
loop-c-init g c = record {
  count = refl;
  led = led_same g.L.Link.happens _;
  from = omega arith;
  ends = stays g.L.Link.happens _ _ (DoesAmong (Ends 0) c.args.closing.now c.args.closing.now) (λ x has. (refl, has));
}

pub loop-c-preserved : goal.loop-c-preserved
loop-c-preserved g c =
    let next = c.in-Some.ensures.found in
    let old = c.args.closing.now in
    let few : c.in-Some.c < 512 = omega (arith, next.below, c.clients-count.ensures.few) in
    record {
      count = c.ask.ensures.count ∙ c.loop-c.invariant.count;
      led = led_on g.L.Link.happens _ _ _ c.loop-c.invariant.led c.ask.ensures.led;
      from = omega (arith, next.below, c.clients-count.ensures.count);
      ends = joined g.L.Link.happens _ _ _ _ _ _ (DoesAmong (Ends c.loop-c.from) old c.loop-c.closing) (DoesAmong (Ended c.in-Some.c) c.loop-c.closing c.ask.new.closing) (DoesAmong (Ends (c.in-Some.c + 1)) old c.ask.new.closing)
          (λ x y z. ends_more old c.loop-c.closing c.ask.new.closing c.loop-c.from c.in-Some.c x y z next.starts few next.none_before) c.loop-c.invariant.ends c.ask.ensures.ended;
    }

pub returns-clause-ends : goal.returns-clause-ends
returns-clause-ends g c =
    let old = c.args.closing.now in
    let core = c.args.core.now in
    let few : client_count core ≤ 512 = omega (arith, c.clients-count.ensures.count, c.clients-count.ensures.few) in
    also g.L.Link.happens _ _ _ _ (DoesAmong (Ends c.loop-c.from) old c.loop-c.closing) (DoesAmong EndsAll old c.loop-c.closing)
    (λ s run h y. ends_to old c.loop-c.closing c.loop-c.from (client_count core) (course core s run h) y c.loop-c.invariant.from few (λ d low high. c.in_default.ensures.none refl d low (omega (arith, high, c.clients-count.ensures.count))))
    c.loop-c.invariant.ends
