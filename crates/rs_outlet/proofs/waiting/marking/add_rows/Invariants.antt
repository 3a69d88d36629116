use Rattle.std.proofs.Common.{◌≡◌, ◌≤◌}
use Rattle.std.specs.Vec.{vec_capacity}
use Rattle.rs_outlet.specs.Inside.{AreBacked}
use Rattle.rs_outlet.specs.Pending.Slots.{withdrawn_count}
use Rattle.rs_outlet.proofs.Pending.MarkedAgain.{AreMarking}
use Rattle.rs_outlet.proofs.Pending.MarkedAll.{AreListed}
use Rattle.rs_outlet.proofs.waiting.marking.add_rows.Given as goal

abbrev pub invariant-loop-slot : goal.invariant-loop-slot
invariant-loop-slot l = record {
  marking : AreMarking l.rows.rows.items l.fn.slots.items l.initial.slots.items l.waited l.slots.items;
  listed : AreBacked l.rows.rows.items l.fn.slots.items → AreListed l.rows.rows.items l.initial.slots.items l.slot (vec_capacity l.fn.slots) l.slots.items;
  withdrawn : withdrawn_count l.slots.items ≤ withdrawn_count l.fn.slots.items;
  capacity : vec_capacity l.slots ≡ vec_capacity l.fn.slots;
}
