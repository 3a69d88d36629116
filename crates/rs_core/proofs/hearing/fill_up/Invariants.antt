use Rattle.std.proofs.Common.{◌≡◌, ◌⊎◌, ℕ, List, [], ◌++◌, length}
use Rattle.rs_core.specs.Run.Parts.{IsWanted}
use Rattle.rs_core.proofs.hearing.fill_up.Given as goal

abbrev pub invariant-loop-allowed : goal.invariant-loop-allowed
invariant-loop-allowed l = (front : List ℕ) × (l.piece ≡ front ++ l.rest) × (l.buffer.items ≡ l.fn.buffer.items ++ front) × ((front ≡ []) ⊎ IsWanted l.allowed l.buffer.items)

abbrev pub decreases-loop-allowed : goal.decreases-loop-allowed
decreases-loop-allowed l = length l.rest
