use Rattle.std.proofs.Common.{◌≡◌, ◌≤◌, List, Option, None, cond, take}
use Rattle.std.specs.List.{list_any}
use Rattle.std.specs.Vec.{vec_capacity}
use Rattle.rs_octets.specs.Prefixes.{Prefix}
use Rattle.rs_attrs.specs.Meaning.{Attribute}
use Rattle.rs_rows.specs.Rows.{Row}
use Rattle.rs_outlet.specs.Pending.Slots.{open_at, withdrawn_count}
use Rattle.rs_outlet.specs.Inside.{AreChained}
use Rattle.rs_outlet.specs.Pending.Choosing.{AreChosen}
use Rattle.rs_outlet.proofs.Decided.LocByNumber.{same}
use Rattle.rs_outlet.proofs.Message.Chosen.{AreLeft}
use Rattle.rs_outlet.proofs.waiting.Waits.give_up_all.Given as goal

abbrev pub invariant-loop-slot : goal.invariant-loop-slot
invariant-loop-slot l = record {
  withdrawn : withdrawn_count l.self.slots.items ≤ withdrawn_count l.fn.self.slots.items;
  chained : (rows : List (Option Row)) → AreChained rows (take l.fn.self.sorted l.fn.self.slots.items) l.fn.self.chains.items → AreChained rows (take l.self.sorted l.self.slots.items) l.self.chains.items;
  capacity : vec_capacity l.self.slots ≡ vec_capacity l.fn.self.slots;
  slots : (rows : List (Option Row)) (said : Option (List Attribute)) (ps : List Prefix) → AreChosen rows l.fn.self.slots.items said l.chosen ps → (q : Prefix) → open_at q l.self.slots.items ≡ cond (list_any (same q) (take l.slot-index ps)) None (open_at q l.fn.self.slots.items);
  left : (rows : List (Option Row)) (said : Option (List Attribute)) (ps : List Prefix) → AreChosen rows l.fn.self.slots.items said l.chosen ps → AreLeft l.fn.self.slots.items l.self.slots.items;
}
