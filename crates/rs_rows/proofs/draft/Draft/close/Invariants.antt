use Rattle.std.proofs.Common.{◌≡◌, take}
use Rattle.rs_rows.proofs.draft.Draft.close.Given as goal

abbrev pub invariant-loop-cell : goal.invariant-loop-cell
invariant-loop-cell l = l.rows.items ≡ take l.cell-index l.self.cells.items
