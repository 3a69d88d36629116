use Rattle.std.proofs.Common.{drop}
use Rattle.rs_attrs.specs.Tagged.{KeepsAsked}
use Rattle.rs_attrs.specs.declared.asked.AskedTags.{AskedTags}
use Rattle.rs_policy.specs.Unasked.{AreNotAskedOf}
use Rattle.rs_policy.proofs.rules.receivers.with_rules.Given as goal

-- where what is asked for keeps what is left from counting, too, it keeps all
abbrev pub invariant-loop-rule : goal.invariant-loop-rule
invariant-loop-rule l = record {
  kept : KeepsAsked l.fn.before l.asked;
  all : (asked : AskedTags) → KeepsAsked l.asked asked → AreNotAskedOf asked (drop l.rule-index l.rules) → AreNotAskedOf asked l.rules;
}
