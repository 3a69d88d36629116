use Rattle.std.proofs.Common.{◌≡◌, None, replicate, take}
use Rattle.rs_rows.proofs.draft.Draft.is_free.Given as goal

abbrev pub invariant-loop-cell : goal.invariant-loop-cell
invariant-loop-cell l = take l.cell-index l.self.cells.items ≡ replicate l.cell-index None
