use Rattle.std.proofs.Common.{◌≡◌}
use Rattle.rs_rows.proofs.blocks.Blocks.adopt.Given as goal

abbrev pub invariant-loop-index : goal.invariant-loop-index
invariant-loop-index l = l.self.items ≡ l.fn.self.items
