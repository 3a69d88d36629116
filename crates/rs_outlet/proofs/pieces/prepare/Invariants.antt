use Rattle.std.proofs.Common.{◌≡◌, take}
use Rattle.std.specs.List.{AllByRecursion}
use Rattle.rs_outlet.specs.Decided.Plans.{HasRows}
use Rattle.rs_outlet.proofs.pieces.prepare.Given as goal

abbrev pub invariant-loop-piece : goal.invariant-loop-piece
invariant-loop-piece l = record {
  rows : l.rows.rows.items ≡ l.fn.rows.rows.items;
  used : l.rows.used ≡ l.fn.rows.used;
  prepared : AllByRecursion (HasRows l.rows.rows) (take l.piece-index l.pieces);
}
