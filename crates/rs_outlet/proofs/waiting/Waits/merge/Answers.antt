use Rattle.std.proofs.Common.{rules, ◌∙◌, arith}
use Rattle.rs_outlet.proofs.Pending.TwoParts.{are_merged, whole_first, whole_late}
use Rattle.rs_outlet.proofs.waiting.Waits.merge.Goals as goal

pub invariant_of-self-clause-counted : goal.invariant_of-self-clause-counted
invariant_of-self-clause-counted c =
    let merged = are_merged c.args.self.now.slots.items c.keep_open.new.slots.items c.sort_from.new.slots.items c.keep_open.ensures.items c.sort_from.ensures.permutation c.sort_from.ensures.sorted c.args.self.now.apart in
    merged.count ∙ c.args.self.now.counted

pub invariant_of-self-clause-first : goal.invariant_of-self-clause-first
invariant_of-self-clause-first c =
    let merged = are_merged c.args.self.now.slots.items c.keep_open.new.slots.items c.sort_from.new.slots.items c.keep_open.ensures.items c.sort_from.ensures.permutation c.sort_from.ensures.sorted c.args.self.now.apart in
    whole_first c.len-self.result c.sort_from.new.slots.items (omega (arith, c.len-self.ensures, c.sort_from.new.slots.ok)) merged.rises

pub invariant_of-self-clause-late : goal.invariant_of-self-clause-late
invariant_of-self-clause-late c = whole_late c.len-self.result c.sort_from.new.slots.items (omega (arith, c.len-self.ensures, c.sort_from.new.slots.ok))

pub invariant_of-self-clause-apart : goal.invariant_of-self-clause-apart
invariant_of-self-clause-apart c =
    let merged = are_merged c.args.self.now.slots.items c.keep_open.new.slots.items c.sort_from.new.slots.items c.keep_open.ensures.items c.sort_from.ensures.permutation c.sort_from.ensures.sorted c.args.self.now.apart in
    merged.apart

pub returns : goal.returns
returns c =
    let merged = are_merged c.args.self.now.slots.items c.keep_open.new.slots.items c.sort_from.new.slots.items c.keep_open.ensures.items c.sort_from.ensures.permutation c.sort_from.ensures.sorted c.args.self.now.apart in
    record {
      slots = merged.slots;
      rises = merged.rises;
      one = c.len-self.ensures;
      len = omega (arith, merged.size, c.sort_from.new.slots.ok);
      withdrawn = merged.withdrawn;
      capacity = c.sort_from.ensures.capacity ∙ c.keep_open.ensures.capacity;
      chains = search rules;
    }
