use Rattle.std.proofs.Common.{◌≡◌, ◌+◌, ◌++◌, drop}
use Rattle.rs_policy.specs.Seen.{data_of}
use Rattle.rs_policy.specs.Values.{answer, each_from, checks_from}
use Rattle.rs_policy.specs.Rules.{rule_checks, rule_of}
use Rattle.rs_policy.specs.Documents.{rule_place, rules_checks, rules_from}
use Rattle.rs_policy.proofs.config.policies.rules_of.Given as goal

abbrev pub invariant-loop-index : goal.invariant-loop-index
invariant-loop-index l =
    answer (rules_checks l.clients l.lists l.number l.list (data_of l.tables)) (rules_from l.clients l.lists l.number l.list (data_of l.tables))
    ≡ answer (checks_from (λ r d. rule_checks l.clients l.lists (rule_place l.number l.list r) d) (l.index + 1) (data_of (drop l.index l.tables)))
    (l.rules.items ++ each_from (λ r d. rule_of l.clients l.lists (rule_place l.number l.list r) d) (l.index + 1) (data_of (drop l.index l.tables)))
