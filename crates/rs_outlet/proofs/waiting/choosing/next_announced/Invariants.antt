use Rattle.std.proofs.Common.{◌≡◌, false}
use Rattle.std.specs.List.{AllWithin}
use Rattle.rs_outlet.specs.Pending.Slots.{is_announced}
use Rattle.rs_outlet.proofs.waiting.choosing.next_announced.Given as goal

abbrev pub invariant-loop-slot : goal.invariant-loop-slot
invariant-loop-slot l = AllWithin (λ w. is_announced w ≡ false) l.slots l.fn.from l.slot
