use Rattle.std.proofs.Common.{◌∙◌}
use Rattle.rs_outlet.proofs.Pending.TwoParts.{added_same}
use Rattle.rs_outlet.proofs.waiting.Waits.add.Goals as goal

pub returns-clause-slots : goal.returns-clause-slots
returns-clause-slots c = λ q.
    c.add_late.ensures.slots q
    ∙ added_same c.args.self.now.slots.items c.make_room.new.self.slots.items c.args.more.items c.make_room.ensures.slots q
