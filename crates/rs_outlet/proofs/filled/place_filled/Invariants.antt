use Rattle.std.proofs.Common.{◌≡◌, ◌+◌, ◌*◌}
use Rattle.rs_outlet.proofs.Pending.Filling.{AreSo}
use Rattle.rs_outlet.proofs.filled.place_filled.Given as goal

abbrev pub invariant-loop-index : goal.invariant-loop-index
invariant-loop-index l = AreSo (λ j n. n.number ≡ l.place * 16 + j) l.news l.index
