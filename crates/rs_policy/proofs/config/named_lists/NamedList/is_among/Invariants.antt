use Rattle.std.proofs.Common.{◌≡◌, drop}
use Rattle.std.specs.List.{list_any}
use Rattle.rs_policy.specs.NamedLists.{is_same_name}
use Rattle.rs_policy.proofs.config.named_lists.NamedList.is_among.Given as goal

abbrev pub invariant-loop-other : goal.invariant-loop-other
invariant-loop-other l = list_any (is_same_name l.self) (drop l.other-index l.others) ≡ list_any (is_same_name l.self) l.others
