use Rattle.std.proofs.Common.{ap, arith, drop, length, subst, sym, take}
use Rattle.std.specs.List.Sorted.{IsStrictlySortedBy}
use Rattle.std.proofs.lemmas.List.{length-map}
use Rattle.rs_octets.specs.Prefixes.{prefix_order}
use Rattle.rs_outlet.specs.declared.waiting.Wait.{Wait}
use Rattle.rs_outlet.proofs.waiting.Waits.reopen.Goals as goal

pub reopen_slots-requires-clause-parts : goal.reopen_slots-requires-clause-parts
reopen_slots-requires-clause-parts c = record {
  within = omega (arith, c.args.self.now.within, length-map c.args.self.now.slots.items (λ (w : Wait). w.prefix), c.args.self.now.slots.ok);
  first = c.args.self.now.first;
  late = c.args.self.now.late;
}

pub invariant_of-self-clause-within : goal.invariant_of-self-clause-within
invariant_of-self-clause-within c =
    let same = ap length c.reopen_slots.ensures.reopened.prefixes in
    omega (arith, c.args.self.now.within, c.args.self.now.slots.ok, c.reopen_slots.new.slots.ok, same, length-map c.args.self.now.slots.items (λ (w : Wait). w.prefix), length-map c.reopen_slots.new.slots.items (λ (w : Wait). w.prefix))

pub invariant_of-self-clause-first : goal.invariant_of-self-clause-first
invariant_of-self-clause-first c = subst (λ ps. IsStrictlySortedBy prefix_order (take c.args.self.now.sorted ps)) (sym c.reopen_slots.ensures.reopened.prefixes) c.args.self.now.first

pub invariant_of-self-clause-late : goal.invariant_of-self-clause-late
invariant_of-self-clause-late c = subst (λ ps. IsStrictlySortedBy prefix_order (drop c.args.self.now.sorted ps)) (sym c.reopen_slots.ensures.reopened.prefixes) c.args.self.now.late
