use Rattle.std.proofs.Common.{◌≡◌, ◌+◌, ◌++◌, drop, length}
use Rattle.rs_policy.specs.Seen.{data_of}
use Rattle.rs_policy.specs.Values.{answer, each_from, checks_from}
use Rattle.rs_policy.specs.Documents.{policy_checks, policy_from, policies_checks, policies_from}
use Rattle.rs_policy.proofs.config.policies.read_policies.Given as goal

abbrev pub invariant-loop-index : goal.invariant-loop-index
invariant-loop-index l = record {
  answer :
      answer (policies_checks l.clients l.lists l.shared (data_of l.tables)) (policies_from l.clients l.lists l.shared (data_of l.tables))
      ≡ answer (checks_from (policy_checks l.clients l.lists l.shared) (l.index + 1) (data_of (drop l.index l.tables)))
      (l.policies.items ++ each_from (policy_from l.clients l.lists l.shared) (l.index + 1) (data_of (drop l.index l.tables)));
  count : length l.policies.items ≡ l.index;
}
