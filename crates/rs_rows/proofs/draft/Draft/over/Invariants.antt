use Rattle.std.proofs.Common.{◌≡◌, take, length}
use Rattle.std.specs.Arc.{arc_value}
use Rattle.rs_rows.proofs.draft.Draft.over.Given as goal

abbrev pub invariant-loop-index : goal.invariant-loop-index
invariant-loop-index l = record {
  items : l.cells.items ≡ take l.index (arc_value l.block).rows.items;
  len : length l.cells.items ≡ l.index;
}
