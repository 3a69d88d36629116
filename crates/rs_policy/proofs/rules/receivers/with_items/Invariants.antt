use Rattle.std.proofs.Common.{drop}
use Rattle.rs_attrs.specs.Tagged.{KeepsAsked}
use Rattle.rs_attrs.specs.declared.asked.AskedTags.{AskedTags}
use Rattle.rs_policy.specs.Unasked.{AreAllNotAskedOf}
use Rattle.rs_policy.proofs.rules.receivers.with_items.Given as goal

-- where what is asked for keeps what is left from counting, too, it keeps all
abbrev pub invariant-loop-item : goal.invariant-loop-item
invariant-loop-item l = (asked : AskedTags) → KeepsAsked l.asked asked → AreAllNotAskedOf asked l.shared (drop l.item-index l.items) → AreAllNotAskedOf asked l.shared l.items
