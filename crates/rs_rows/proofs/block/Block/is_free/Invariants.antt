use Rattle.std.proofs.Common.{◌≡◌, None, replicate, take}
use Rattle.rs_rows.proofs.block.Block.is_free.Given as goal

abbrev pub invariant-loop-place : goal.invariant-loop-place
invariant-loop-place l = take l.place-index l.self.rows.items ≡ replicate l.place-index None
