use Rattle.std.proofs.Common.{◌≡◌, drop}
use Rattle.std.specs.List.{list_any}
use Rattle.rs_policy.specs.Patterns.{tests_name_peer}
use Rattle.rs_policy.proofs.config.rule_tables.rules_name_peer.Given as goal

abbrev pub invariant-loop-rule : goal.invariant-loop-rule
invariant-loop-rule l = list_any (λ rule. tests_name_peer rule.tests) (drop l.rule-index l.rules) ≡ list_any (λ rule. tests_name_peer rule.tests) l.rules
