use Rattle.std.proofs.Common.{◌≡◌, false}
use Rattle.std.specs.List.{AllWithin}
use Rattle.rs_outlet.specs.Pending.Slots.{is_withdrawn}
use Rattle.rs_outlet.proofs.waiting.choosing.next_withdrawn.Given as goal

abbrev pub invariant-loop-slot : goal.invariant-loop-slot
invariant-loop-slot l = AllWithin (λ w. is_withdrawn w ≡ false) l.slots l.fn.from l.slot
