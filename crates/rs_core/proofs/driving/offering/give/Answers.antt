use Rattle.std.proofs.Common.{◌≡◌, ◌≢◌, ◌<◌, ◌-◌, refl, sym, ◌∙◌, subst, arith}
use Rattle.rs_core.specs.Drives.Answers.{Gives, Used, Stopped, Offers}
use Rattle.rs_core.proofs.Drives.Leading.{led_same, led_on}
use Rattle.rs_core.proofs.Drives.Continuing.{stays, joined, also, GivesOn, gives_more}
use Rattle.rs_core.proofs.driving.offering.give.Goals as goal

pub loop-left-init : goal.loop-left-init
loop-left-init g c = record {
  count = refl;
  led = led_same g.L.Link.happens _;
  gives = stays g.L.Link.happens _ _ (GivesOn c.args.c c.args.room c.args.room) (λ x z rest. rest);
}

pub loop-left-preserved : goal.loop-left-preserved
loop-left-preserved g c =
    let left = c.loop-left.left in
    let taken = c.offer-taken.result in
    let some : taken ≢ 0 = λ e. absurd (c.if-taken-eq0.false e) in
    record {
      count = c.offer-taken.ensures.count ∙ c.loop-left.invariant.count;
      led = led_on g.L.Link.happens _ _ _ c.loop-left.invariant.led c.offer-taken.ensures.led;
      gives = joined g.L.Link.happens _ _ _ _ _ _ (GivesOn c.args.c c.args.room left) (Offers c.args.c left taken) (GivesOn c.args.c c.args.room (left - taken))
          (λ x y z so offers. gives_more c.args.c c.args.room left taken x y z some c.offer-taken.ensures.within so offers) c.loop-left.invariant.gives c.offer-taken.ensures.offers;
    }

pub returns-then-taken-eq0-clause-led : goal.returns-then-taken-eq0-clause-led
returns-then-taken-eq0-clause-led g c = led_on g.L.Link.happens _ _ _ c.loop-left.invariant.led c.offer-taken.ensures.led

pub returns-then-taken-eq0-clause-gives : goal.returns-then-taken-eq0-clause-gives
returns-then-taken-eq0-clause-gives g c =
    let left = c.loop-left.left in
    let taken = c.offer-taken.result in
    let some : 0 < left = omega (arith, c.loop-left-test.true) in
    let none : taken ≡ 0 = omega (arith, c.if-taken-eq0.true) in
    joined g.L.Link.happens _ _ _ _ _ _ (GivesOn c.args.c c.args.room left) (Offers c.args.c left taken) (Gives c.args.c c.args.room)
    (λ x y z so offers. so z (Stopped left y z some (subst (λ k. Offers c.args.c left k y z) none offers))) c.loop-left.invariant.gives c.offer-taken.ensures.offers

pub returns-clause-gives : goal.returns-clause-gives
returns-clause-gives g c =
    let none : c.loop-left.left ≡ 0 = omega (arith, c.loop-left-test.false) in
    also g.L.Link.happens _ _ _ _ (GivesOn c.args.c c.args.room c.loop-left.left) (Gives c.args.c c.args.room)
    (λ s run h y so. so y (subst (λ k. Gives c.args.c k y y) (sym none) (Used y))) c.loop-left.invariant.gives
