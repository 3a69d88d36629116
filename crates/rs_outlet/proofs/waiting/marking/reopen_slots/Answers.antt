use Rattle.std.proofs.Common.{◌∙◌, refl, subst, sym}
use Rattle.rs_outlet.specs.Pending.Parts.{AreParts}
use Rattle.rs_outlet.proofs.Pending.Reopened.{none_reopened, one_reopened}
use Rattle.rs_outlet.proofs.waiting.marking.reopen_slots.Goals as goal

pub loop-slot-init : goal.loop-slot-init
loop-slot-init c = record {
  reopened = none_reopened c.args.rows.now.rows.items c.args.slots.now.items c.requires.apart;
  capacity = refl;
}

pub reopen_slot-requires-clause-parts : goal.reopen_slot-requires-clause-parts
reopen_slot-requires-clause-parts c = subst (AreParts c.args.sorted) (sym c.loop-slot.invariant.reopened.prefixes) c.requires.parts

pub loop-slot-preserved : goal.loop-slot-preserved
loop-slot-preserved c = record {
  reopened = one_reopened c.args.rows.now.rows.items c.loop-slot.slot c.args.slots.now.items c.loop-slot.slots.items c.reopen_slot.new.slots.items c.loop-slot.invariant.reopened c.reopen_slot.ensures.reopened;
  capacity = c.reopen_slot.ensures.capacity ∙ c.loop-slot.invariant.capacity;
}
