use Rattle.std.proofs.Common.{drop}
use Rattle.rs_attrs.specs.Tagged.{KeepsAsked}
use Rattle.rs_attrs.specs.declared.asked.AskedTags.{AskedTags}
use Rattle.rs_policy.specs.Unasked.{ArePassedOver}
use Rattle.rs_policy.proofs.rules.asked.with_asked_among.Given as goal

-- where what is asked for keeps what is left from matching, too, it keeps all
abbrev pub invariant-loop-rule : goal.invariant-loop-rule
invariant-loop-rule l = record {
  kept : KeepsAsked l.fn.before l.marks;
  all : (asked : AskedTags) → KeepsAsked l.marks asked → ArePassedOver asked l.to_as (drop l.rule-index l.rules) → ArePassedOver asked l.to_as l.rules;
}
