use Rattle.std.proofs.Common.{◌≡◌, take}
use Rattle.rs_rows.proofs.block.Block.copy.Given as goal

abbrev pub invariant-loop-place : goal.invariant-loop-place
invariant-loop-place l = l.rows.items ≡ take l.place-index l.self.rows.items
