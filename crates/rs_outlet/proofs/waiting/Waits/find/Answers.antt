use Rattle.std.proofs.Common.{◌∙◌, ◌-◌, List, ap, arith, drop, length, subst, sym, take}
use Rattle.std.specs.List.Sorted.{IsStrictlySortedBy}
use Rattle.std.proofs.lemmas.List.{length-map}
use Rattle.rs_octets.specs.Prefixes.{prefix_order}
use Rattle.rs_outlet.specs.declared.waiting.Wait.{Wait}
use Rattle.rs_outlet.specs.Pending.Slots.{IsOpenSlot, open_at, prefixes_at}
use Rattle.rs_outlet.proofs.Pending.TwoParts.{first_part, late_part, slot_first, slot_late, slot_nowhere}
use Rattle.rs_outlet.proofs.waiting.Waits.find.Goals as goal

pub open_in-requires : goal.open_in-requires
open_in-requires c =
    let ws = c.args.self.now.slots.items in
    subst (λ (zs : List Wait). IsStrictlySortedBy prefix_order (prefixes_at (take c.args.self.now.sorted zs))) (sym c.deref.ensures.value)
    (first_part c.args.self.now.sorted ws (record { within = omega (arith, c.args.self.now.within, length-map ws (λ (w : Wait). w.prefix), c.args.self.now.slots.ok); first = c.args.self.now.first; late = c.args.self.now.late }))

pub open_in-requires-2 : goal.open_in-requires-2
open_in-requires-2 c =
    let ws = c.args.self.now.slots.items in
    let k = c.args.self.now.sorted in
    subst (λ (zs : List Wait). IsStrictlySortedBy prefix_order (prefixes_at (take (length zs - k) (drop k zs)))) (sym c.deref-2.ensures.value)
    (late_part k ws (record { within = omega (arith, c.args.self.now.within, length-map ws (λ (w : Wait). w.prefix), c.args.self.now.slots.ok); first = c.args.self.now.first; late = c.args.self.now.late }))

pub returns-in-Some-clause-found : goal.returns-in-Some-clause-found
returns-in-Some-clause-found c =
    slot_first c.args.prefix.now c.args.self.now.sorted c.args.self.now.slots.items c.in-Some.slot
    (subst (λ (zs : List Wait). IsOpenSlot c.args.prefix.now (take c.args.self.now.sorted zs) c.in-Some.slot) c.deref.ensures.value c.in-Some.ensures.found)

pub returns-in-None-clause-absent : goal.returns-in-None-clause-absent
returns-in-None-clause-absent c = λ _.
    let k = c.args.self.now.sorted in
    slot_nowhere c.args.prefix.now k c.args.self.now.slots.items
    (ap (λ (zs : List Wait). open_at c.args.prefix.now (take k zs)) (sym c.deref.ensures.value) ∙ c.open_in.ensures.absent c.in_default.is)
    (ap (λ (zs : List Wait). open_at c.args.prefix.now (take (length zs - k) (drop k zs))) (sym c.deref-2.ensures.value) ∙ c.open_in-2.ensures.absent c.in-None.is)

pub returns-in-Some-open_in-clause-found : goal.returns-in-Some-open_in-clause-found
returns-in-Some-open_in-clause-found c =
    let k = c.args.self.now.sorted in
    slot_late c.args.prefix.now k c.args.self.now.slots.items c.in-Some-open_in.slot
    (ap (λ (zs : List Wait). open_at c.args.prefix.now (take k zs)) (sym c.deref.ensures.value) ∙ c.open_in.ensures.absent c.in_default.is)
    (subst (λ (zs : List Wait). IsOpenSlot c.args.prefix.now (take (length zs - k) (drop k zs)) c.in-Some-open_in.slot) c.deref-2.ensures.value c.in-Some-open_in.ensures.found)
