use Rattle.std.proofs.Common.{◌≡◌, ◌+◌, ◌-◌, ◌++◌, drop, take, length}
use Rattle.rs_policy.specs.Seen.{data_of}
use Rattle.rs_policy.specs.Values.{answer, each_from, checks_from}
use Rattle.rs_policy.specs.Documents.{shared_checks, shared_from, all_shared_checks, all_shared_from}
use Rattle.rs_policy.proofs.config.shared_rules.read_shared_rules.Given as goal

abbrev pub invariant-loop-index : goal.invariant-loop-index
invariant-loop-index l = record {
  answer :
      answer (all_shared_checks l.clients l.lists (data_of l.tables)) (all_shared_from l.clients l.lists (data_of l.tables))
      ≡ answer (checks_from (λ n d. shared_checks l.clients l.lists n (take (n - 1) (all_shared_from l.clients l.lists (data_of l.tables))) d) (l.index + 1) (data_of (drop l.index l.tables)))
      (l.shared.items ++ each_from (shared_from l.clients l.lists) (l.index + 1) (data_of (drop l.index l.tables)));
  shared : all_shared_from l.clients l.lists (data_of l.tables) ≡ l.shared.items ++ each_from (shared_from l.clients l.lists) (l.index + 1) (data_of (drop l.index l.tables));
  count : length l.shared.items ≡ l.index;
}
