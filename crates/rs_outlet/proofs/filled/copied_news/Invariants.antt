use Rattle.std.proofs.Common.{◌≡◌, map, take}
use Rattle.rs_outlet.specs.Decided.News.{change_of, seen}
use Rattle.rs_outlet.proofs.filled.copied_news.Given as goal

abbrev pub invariant-loop-change : goal.invariant-loop-change
invariant-loop-change l = map seen (map change_of l.news.items) ≡ map seen (take l.change-index l.changes)
