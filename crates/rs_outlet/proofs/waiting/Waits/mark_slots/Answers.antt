use Rattle.std.proofs.Common.{◌∙◌, List, ap, arith, drop, length, subst, sym, take}
use Rattle.std.specs.List.Sorted.{IsStrictlySortedBy}
use Rattle.std.proofs.lemmas.List.{length-map}
use Rattle.rs_octets.specs.Prefixes.{prefix_order}
use Rattle.rs_outlet.specs.declared.waiting.Wait.{Wait}
use Rattle.rs_outlet.specs.Pending.Marking.{remarked}
use Rattle.rs_outlet.proofs.Pending.Reopened.{apart_marked, open_marked, prefixes_marked}
use Rattle.rs_outlet.proofs.waiting.Waits.mark_slots.Goals as goal

pub invariant_of-self-clause-counted : goal.invariant_of-self-clause-counted
invariant_of-self-clause-counted c = open_marked c.args.self.now.slots.items c.mark_told.new.slots.items c.mark_told.ensures.items ∙ c.args.self.now.counted

pub invariant_of-self-clause-within : goal.invariant_of-self-clause-within
invariant_of-self-clause-within c =
    omega (arith, c.args.self.now.within, c.args.self.now.slots.ok, c.mark_told.new.slots.ok, ap (λ (ws : List Wait). length ws) c.mark_told.ensures.items, length-map c.args.self.now.slots.items remarked)

pub invariant_of-self-clause-first : goal.invariant_of-self-clause-first
invariant_of-self-clause-first c =
    subst (λ ps. IsStrictlySortedBy prefix_order (take c.args.self.now.sorted ps)) (sym (prefixes_marked c.args.self.now.slots.items c.mark_told.new.slots.items c.mark_told.ensures.items)) c.args.self.now.first

pub invariant_of-self-clause-late : goal.invariant_of-self-clause-late
invariant_of-self-clause-late c =
    subst (λ ps. IsStrictlySortedBy prefix_order (drop c.args.self.now.sorted ps)) (sym (prefixes_marked c.args.self.now.slots.items c.mark_told.new.slots.items c.mark_told.ensures.items)) c.args.self.now.late

pub invariant_of-self-clause-apart : goal.invariant_of-self-clause-apart
invariant_of-self-clause-apart c = apart_marked c.args.self.now.slots.items c.mark_told.new.slots.items c.mark_told.ensures.items c.args.self.now.apart
