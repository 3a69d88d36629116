use Rattle.std.proofs.Common.{◌≡◌}
use Rattle.rs_rows.specs.Rows.{row_at}
use Rattle.rs_outlet.specs.Decided.News.{row_of}
use Rattle.rs_outlet.proofs.Pending.Filling.{AreSo}
use Rattle.rs_outlet.proofs.filled.has_rows_of.Given as goal

abbrev pub invariant-loop-index : goal.invariant-loop-index
invariant-loop-index l = AreSo (λ j n. row_at l.block.rows.items j ≡ row_of n) l.news l.index
