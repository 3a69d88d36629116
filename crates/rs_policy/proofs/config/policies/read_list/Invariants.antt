use Rattle.std.proofs.Common.{◌≡◌, ◌+◌, ◌++◌, drop}
use Rattle.toml.specs.View.{view}
use Rattle.rs_policy.specs.Seen.{data_of}
use Rattle.rs_policy.specs.Values.{answer, each_from, checks_from}
use Rattle.rs_policy.specs.Documents.{rule_place, item_checks, item_of, list_checks, list_of_items}
use Rattle.rs_policy.proofs.config.policies.read_list.Given as goal

abbrev pub invariant-loop-index : goal.invariant-loop-index
invariant-loop-index l =
    answer (list_checks l.clients l.lists l.shared l.client l.list (view l.table)) (list_of_items l.clients l.lists l.shared l.client l.list (view l.table))
    ≡ answer (checks_from (λ r d. item_checks l.clients l.lists l.shared (rule_place l.client l.list r) d) (l.index + 1) (data_of (drop l.index l.tables)))
    (l.items.items ++ each_from (λ r d. item_of l.clients l.lists l.shared (rule_place l.client l.list r) d) (l.index + 1) (data_of (drop l.index l.tables)))
