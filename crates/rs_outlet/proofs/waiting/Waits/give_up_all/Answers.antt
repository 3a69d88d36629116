use Rattle.std.proofs.Common.{◌≤◌, ◌∙◌, None, cond, length, get_or, ap, arith, inl, refl}
use Rattle.std.specs.List.{list_any}
use Rattle.rs_outlet.specs.Pending.Slots.{open_at}
use Rattle.rs_outlet.proofs.Decided.LocByNumber.{same}
use Rattle.rs_outlet.proofs.Message.Chosen.{next_chosen, given_up_more, given_up_one, left_one, as_many, take_past}
use Rattle.rs_outlet.proofs.waiting.Waits.give_up_all.Goals as goal

pub loop-slot-preserved : goal.loop-slot-preserved
loop-slot-preserved c =
    let old = c.args.self.now.slots.items in
    let now = c.loop-slot.self.slots.items in
    let new = c.give_up_one.new.self.slots.items in
    let i = c.loop-slot.slot-index in
    record {
      withdrawn = omega (arith, c.give_up_one.ensures.withdrawn, c.loop-slot.invariant.withdrawn);
      chained = λ rows are. c.give_up_one.ensures.chained rows (c.loop-slot.invariant.chained rows are);
      capacity = c.give_up_one.ensures.capacity ∙ c.loop-slot.invariant.capacity;
      slots = λ rows said ps are q.
          let r = next_chosen rows old said c.args.chosen.now ps i 0 are c.loop-slot-test.true in
          given_up_more q r.0.prefix ps i old now new (r.3 q) (c.loop-slot.invariant.slots rows said ps are q)
          (given_up_one old now new c.loop-slot.self.apart (c.loop-slot.invariant.left rows said ps are) (get_or c.args.chosen.now i 0) r.0 r.1 r.2 c.give_up_one.ensures.slots q);
      left = λ rows said ps are.
          let r = next_chosen rows old said c.args.chosen.now ps i 0 are c.loop-slot-test.true in
          left_one old now new c.loop-slot.self.apart (c.loop-slot.invariant.left rows said ps are) (get_or c.args.chosen.now i 0) r.0 r.1 r.2 c.give_up_one.ensures.slots;
    }

pub loop-slot-init : goal.loop-slot-init
loop-slot-init c = record {
  withdrawn = omega arith;
  chained = λ rows are. are;
  capacity = refl;
  slots = λ rows said ps are q. refl;
  left = λ rows said ps are n w at opened. inl at;
}

pub returns-clause-slots : goal.returns-clause-slots
returns-clause-slots c = λ rows said ps are q.
    let all : length ps ≤ c.loop-slot.slot-index = omega (arith, as_many rows c.args.self.now.slots.items said c.args.chosen.now ps are, c.loop-slot-test.false) in
    c.loop-slot.invariant.slots rows said ps are q
    ∙ ap (λ ks. cond (list_any (same q) ks) None (open_at q c.args.self.now.slots.items)) (take_past c.loop-slot.slot-index ps all)
