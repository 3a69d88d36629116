use Rattle.std.proofs.Common.{◌≡◌, ◌++◌}
use Rattle.std.specs.Vec.Iter.{into_iter_items}
use Rattle.rs_outlet.specs.Decided.Plans.{news_in}
use Rattle.rs_outlet.proofs.pieces.list_each.Given as goal

abbrev pub invariant-loop-one : goal.invariant-loop-one
invariant-loop-one l = news_in l.pieces.items ++ into_iter_items l.one-iterator ≡ news_in l.fn.pieces.items ++ l.fn.news.items
