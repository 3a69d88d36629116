use Rattle.std.proofs.Common.{◌≡◌}
use Rattle.std.specs.Prelude.{vec_len}
use Rattle.rs_core.proofs.making.buffers.Given as goal

abbrev pub invariant-loop-c : goal.invariant-loop-c
invariant-loop-c l = vec_len l.all ≡ l._c
