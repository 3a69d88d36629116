use Rattle.std.proofs.Common.{◌&&◌, not, ap, arith}
use Rattle.rs_outlet.specs.Pending.Slots.{is_withdrawal, is_announced}
use Rattle.rs_outlet.proofs.Message.Collected.{both_rise, least_both}
use Rattle.rs_outlet.proofs.Pending.Draining.{all_shut}
use Rattle.rs_outlet.proofs.waiting.Waits.first_announced.Goals as goal

pub returns-clause-first : goal.returns-clause-first
returns-clause-first c =
    let was = c.args.self.now in
    least_both is_announced was.slots.items c.deref.result.now c.deref-2.result.now was.sorted was.news c.next_announced-self.result c.next_announced-late.result was.slots.len
    c.deref.ensures.value c.deref-2.ensures.value (omega (arith, was.slots.ok)) (omega (arith, was.within, was.slots.ok)) (both_rise was.sorted was.slots.items was.first was.late)
    was.announced c.next_announced-self.ensures.before c.next_announced-self.ensures.there c.next_announced-late.ensures.later c.next_announced-late.ensures.before c.next_announced-late.ensures.there
    c.lesser.result c.lesser.ensures.within c.lesser.ensures.either c.lesser.ensures.least c.lesser.ensures.none

pub returns-then-self-eq0-clause-first : goal.returns-then-self-eq0-clause-first
returns-then-self-eq0-clause-first c = λ m z at.
    let now = c.args.self.now in
    ap (λ b. b && not (is_withdrawal z.due)) (all_shut now.slots.items (omega (arith, now.counted, c.if-self-eq0.true)) m z at)
