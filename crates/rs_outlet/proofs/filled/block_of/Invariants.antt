use Rattle.std.proofs.Common.{◌≡◌, ◌++◌, ◌-◌, None, map, take}
use Rattle.std.specs.Prelude.{replicate}
use Rattle.rs_outlet.specs.Decided.News.{row_of}
use Rattle.rs_outlet.proofs.filled.block_of.Given as goal

abbrev pub invariant-loop-index : goal.invariant-loop-index
invariant-loop-index l = l.block.rows.items ≡ map row_of (take l.index l.news) ++ replicate (16 - l.index) None
