use Rattle.rs_adjin.specs.AdjIns.{set_of}
use Rattle.rs_outlet.specs.Pending.Chains.{AreKeyed}
use Rattle.rs_outlet.proofs.waiting.chains.list_all.Given as goal

abbrev pub invariant-loop-slot : goal.invariant-loop-slot
invariant-loop-slot l = AreKeyed l.exact (set_of l.ins) l.rows.rows.items l.slots l.slot l.order.items
