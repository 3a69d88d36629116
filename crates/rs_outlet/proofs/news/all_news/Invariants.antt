use Rattle.std.proofs.Common.{◌≡◌, ◌++◌, map}
use Rattle.std.specs.Vec.Iter.{into_iter_items}
use Rattle.rs_outlet.specs.Decided.News.{change_of}
use Rattle.rs_outlet.proofs.news.all_news.Given as goal

abbrev pub invariant-loop-change : goal.invariant-loop-change
invariant-loop-change l = map change_of l.news.items ++ into_iter_items l.change-iterator ≡ l.fn.changes.items
