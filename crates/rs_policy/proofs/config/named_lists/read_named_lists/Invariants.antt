use Rattle.std.proofs.Common.{◌≡◌, ◌+◌, ◌-◌, ◌++◌, drop, take, length}
use Rattle.rs_policy.specs.Seen.{data_of}
use Rattle.rs_policy.specs.Values.{answer, each_from, checks_from}
use Rattle.rs_policy.specs.NamedLists.{named_list_checks, named_list_from, named_lists_checks, named_lists_from}
use Rattle.rs_policy.proofs.config.named_lists.read_named_lists.Given as goal

abbrev pub invariant-loop-index : goal.invariant-loop-index
invariant-loop-index l = record {
  answer :
      answer (named_lists_checks (data_of l.tables)) (named_lists_from (data_of l.tables))
      ≡ answer (checks_from (λ n d. named_list_checks n (take (n - 1) (named_lists_from (data_of l.tables))) d) (l.index + 1) (data_of (drop l.index l.tables)))
      (l.lists.items ++ each_from named_list_from (l.index + 1) (data_of (drop l.index l.tables)));
  lists : named_lists_from (data_of l.tables) ≡ l.lists.items ++ each_from named_list_from (l.index + 1) (data_of (drop l.index l.tables));
  count : length l.lists.items ≡ l.index;
}
