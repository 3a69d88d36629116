use Rattle.std.proofs.Common.{ap, arith}
use Rattle.rs_outlet.specs.Pending.Slots.{withdrawn_count}
use Rattle.rs_outlet.proofs.Pending.Withdrawals.{withdrawn_open}
use Rattle.rs_outlet.proofs.plan.Plan.make_room.Goals as goal

pub returns-clause-all : goal.returns-clause-all
returns-clause-all c =
    let ws = c.args.waits.now.slots.items in
    omega (arith, withdrawn_open ws, c.used.ensures, c.in-Some.ensures, c.len.ensures, c.in-Some-checked_add.ensures, ap withdrawn_count c.reserve.ensures.items, c.in_ok-reserve.ensures.room)
