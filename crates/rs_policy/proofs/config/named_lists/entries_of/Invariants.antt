use Rattle.std.proofs.Common.{◌≡◌, ◌+◌, drop, length}
use Rattle.rs_policy.specs.Seen.{data_of}
use Rattle.rs_policy.specs.Values.{entries_from}
use Rattle.rs_policy.proofs.Reading.Entries.{onto}
use Rattle.rs_policy.proofs.config.named_lists.entries_of.Given as goal

abbrev pub invariant-loop-index : goal.invariant-loop-index
invariant-loop-index g l = record {
  entries :
      entries_from (g.K.Kind.reads l.kind) l.list l.key 1 (data_of l.values)
      ≡ onto l.entries.items (entries_from (g.K.Kind.reads l.kind) l.list l.key (l.index + 1) (data_of (drop l.index l.values)));
  count : length l.entries.items ≡ l.index;
}
