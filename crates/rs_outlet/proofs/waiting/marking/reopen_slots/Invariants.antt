use Rattle.std.proofs.Common.{◌≡◌}
use Rattle.std.specs.Vec.{vec_capacity}
use Rattle.rs_outlet.specs.Pending.Marking.{AreReopened}
use Rattle.rs_outlet.proofs.waiting.marking.reopen_slots.Given as goal

abbrev pub invariant-loop-slot : goal.invariant-loop-slot
invariant-loop-slot l = record {
  reopened : AreReopened l.rows.rows.items l.fn.slots.items l.slots.items;
  capacity : vec_capacity l.slots ≡ vec_capacity l.fn.slots;
}
