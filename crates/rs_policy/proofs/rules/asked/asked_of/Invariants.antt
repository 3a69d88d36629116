use Rattle.std.proofs.Common.{drop}
use Rattle.rs_attrs.specs.Tagged.{KeepsAsked}
use Rattle.rs_attrs.specs.declared.asked.AskedTags.{AskedTags}
use Rattle.rs_policy.specs.Unasked.{AreAllPassedOver}
use Rattle.rs_policy.proofs.rules.asked.asked_of.Given as goal

-- where what is asked for keeps what is left from matching, too, it keeps all
abbrev pub invariant-loop-item : goal.invariant-loop-item
invariant-loop-item l = (asked : AskedTags) → KeepsAsked l.marks asked → AreAllPassedOver asked l.to_as l.shared (drop l.item-index l.items) → AreAllPassedOver asked l.to_as l.shared l.items
