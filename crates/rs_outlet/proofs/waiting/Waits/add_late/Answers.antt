use Rattle.std.proofs.Common.{◌≡◌, ◌∙◌, List, arith, cond, drop, false, subst, sym, take}
use Rattle.std.specs.List.{AllWithin}
use Rattle.std.proofs.lemmas.List.{length-map}
use Rattle.std.proofs.lemmas.List.Sorted.{length_permutation, sum_by-IsPermutation}
use Rattle.rs_outlet.specs.declared.waiting.Wait.{Wait}
use Rattle.rs_outlet.specs.Inside.{AreChained}
use Rattle.rs_outlet.specs.Pending.Slots.{AreByHash, is_announced, is_withdrawn}
use Rattle.rs_outlet.proofs.Pending.Adding.{moved_apart}
use Rattle.rs_outlet.proofs.Pending.Apart.{apart_moved, open_moved}
use Rattle.rs_outlet.proofs.Pending.TwoParts.{first_same, late_rise, open_within}
use Rattle.rs_outlet.proofs.Pending.Withdrawals.{one_if}
use Rattle.rs_outlet.proofs.waiting.Waits.add_late.Goals as goal

pub put_slots-requires-clause-parts : goal.put_slots-requires-clause-parts
put_slots-requires-clause-parts c =
    record { within = omega (arith, c.args.self.now.within, length-map c.args.self.now.slots.items (λ (w : Wait). w.prefix), c.args.self.now.slots.ok); first = c.args.self.now.first; late = c.args.self.now.late }

pub overflow_add-self : goal.overflow_add-self
overflow_add-self c = omega (arith, c.put_slots.ensures.count, c.args.self.now.counted, open_within c.put_slots.new.slots.items, c.put_slots.new.slots.ok, c.len-count.ensures)

pub invariant_of-self : goal.invariant_of-self
invariant_of-self c =
    let was = c.args.self.now in
    let put = c.put_slots.new.slots.items in
    let new = c.sort_like_others.new.slots.items in
    let moved = sum_by-IsPermutation (λ (w : Wait). cond w.open 1 0) put new c.sort_like_others.ensures.permutation in
    let first : take was.sorted new ≡ take was.sorted was.slots.items = c.sort_like_others.ensures.first ∙ c.put_slots.ensures.first in
    record {
      counted = omega (arith, moved, c.put_slots.ensures.count, was.counted, c.len-count.ensures);
      withdrawn = subst (λ (ws : List Wait). AllWithin (λ (w : Wait). is_withdrawn w ≡ false) ws 0 was.gone) (sym first) was.withdrawn;
      announced = subst (λ (ws : List Wait). AllWithin (λ (w : Wait). is_announced w ≡ false) ws 0 was.news) (sym first) was.announced;
      within = omega (arith, c.put_slots.ensures.within, length_permutation put new c.sort_like_others.ensures.permutation, c.put_slots.new.slots.ok, c.sort_like_others.new.slots.ok);
      first = first_same was.sorted new was.slots.items first was.first;
      late = late_rise was.sorted new c.sort_like_others.ensures.sorted (moved_apart (drop was.sorted put) (drop was.sorted new) c.sort_like_others.ensures.late c.put_slots.ensures.late);
      apart = apart_moved put new c.sort_like_others.ensures.permutation c.put_slots.ensures.apart;
      by_hash = λ is. subst (λ (ws : List Wait). AreByHash ws was.chains.items) (sym first) (was.by_hash is);
    }

pub returns-clause-slots : goal.returns-clause-slots
returns-clause-slots c = λ q. open_moved c.put_slots.new.slots.items c.sort_like_others.new.slots.items c.put_slots.ensures.apart c.sort_like_others.ensures.permutation q ∙ c.put_slots.ensures.slots q

pub returns-clause-withdrawn : goal.returns-clause-withdrawn
returns-clause-withdrawn c =
    let moved = sum_by-IsPermutation (λ (w : Wait). one_if (is_withdrawn w)) c.put_slots.new.slots.items c.sort_like_others.new.slots.items c.sort_like_others.ensures.permutation in
    omega (arith, moved, c.put_slots.ensures.withdrawn)

pub returns-clause-chained : goal.returns-clause-chained
returns-clause-chained c = λ rows. subst (λ (ws : List Wait). AreChained rows ws c.args.self.now.chains.items) (sym (c.sort_like_others.ensures.first ∙ c.put_slots.ensures.first))
