use Rattle.std.proofs.Common.{◌≡◌, ◌+◌, ◌≤◌, min}
use Rattle.std.specs.Vec.{vec_capacity}
use Rattle.std.specs.Prelude.{List, Option, None, vec_len}
use Rattle.rs_rows.specs.Rows.{Row}
use Rattle.rs_outlet.specs.Pending.Slots.{is_withdrawn}
use Rattle.rs_outlet.specs.Pending.Choosing.{AreChosen}
use Rattle.rs_outlet.proofs.Message.Collected.{AreCollected}
use Rattle.rs_outlet.proofs.waiting.Waits.collect_withdrawn.Given as goal

abbrev pub invariant-loop : goal.invariant-loop
invariant-loop l = record {
  chosen : vec_capacity l.chosen ≡ vec_capacity l.fn.chosen;
  front : vec_capacity l.front ≡ vec_capacity l.fn.front;
  past : l.self.sorted ≤ l.late;
  within : l.late ≤ vec_len l.self.slots;
  far : l.counter + l.self.sorted ≤ min l.first l.self.sorted + l.late;
  are : (rows : List (Option Row)) → AreChosen rows l.self.slots.items None l.chosen.items l.front.items;
  all : AreCollected is_withdrawn l.self.slots.items l.self.sorted l.room l.first l.late l.front.items;
}
