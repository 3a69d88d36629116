use Rattle.std.proofs.Common.{◌≡◌, ◌++◌, map, take}
use Rattle.std.specs.Vec.{vec_capacity}
use Rattle.rs_outlet.specs.Decided.News.{slot_of}
use Rattle.rs_outlet.specs.Decided.Plans.{news_within}
use Rattle.rs_outlet.proofs.filled.Whole.list_slots.Given as goal

abbrev pub invariant-loop-index : goal.invariant-loop-index
invariant-loop-index l = record {
  items : l.fresh.items ≡ l.fn.fresh.items ++ map slot_of (take l.index (news_within l.self));
  capacity : vec_capacity l.fresh ≡ vec_capacity l.fn.fresh;
}
