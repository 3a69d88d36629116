use Rattle.std.proofs.Common.{◌≡◌, take}
use Rattle.rs_rows.proofs.block.Block.is_same.Given as goal

abbrev pub invariant-loop-index : goal.invariant-loop-index
invariant-loop-index l = take l.index l.other.rows.items ≡ take l.index l.self.rows.items
