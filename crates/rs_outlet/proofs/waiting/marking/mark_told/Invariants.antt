use Rattle.std.proofs.Common.{◌≡◌, ◌++◌, map, take, drop}
use Rattle.rs_outlet.specs.Pending.Marking.{remarked}
use Rattle.rs_outlet.proofs.waiting.marking.mark_told.Given as goal

abbrev pub invariant-loop-wait : goal.invariant-loop-wait
invariant-loop-wait l = l.wait-items ≡ map remarked (take l.wait-index l.fn.slots.items) ++ drop l.wait-index l.fn.slots.items
