use Rattle.std.proofs.Common.{◌≤◌, length}
use Rattle.rs_outlet.specs.Pending.Slots.{AreByHash}
use Rattle.rs_outlet.specs.Pending.Linking.{AreMet}
use Rattle.rs_outlet.proofs.waiting.linking.link_all.Given as goal

abbrev pub invariant-loop-slot : goal.invariant-loop-slot
invariant-loop-slot l = record {
  within : l.slot ≤ length l.slots;
  met : AreMet l.slots l.slot l.table;
  by_hash : AreByHash l.slots l.chains;
}

abbrev pub decreases-loop-slot : goal.decreases-loop-slot
decreases-loop-slot l = l.slot
