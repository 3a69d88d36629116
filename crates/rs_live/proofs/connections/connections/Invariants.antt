use Rattle.std.proofs.Common.{◌≡◌, ℕ}
use Rattle.rs_live.specs.Keeping.{held_by, held_of, nothing}
use Rattle.rs_live.proofs.connections.connections.Given as goal

abbrev pub invariant-loop-c : goal.invariant-loop-c
invariant-loop-c l = (c : ℕ) → held_by c (held_of l.all.items) ≡ nothing
