use Rattle.std.proofs.Common.{◌≡◌, take, length}
use Rattle.rs_policy.specs.Indexed.{AreIndexed}
use Rattle.rs_policy.proofs.config.indexed.prefix_spans.Given as goal

abbrev pub invariant-loop-range : goal.invariant-loop-range
invariant-loop-range l = record {
  indexed : AreIndexed (take l.range-index l.ranges) l.spans.items;
  count : length l.spans.items ≡ l.range-index;
}
