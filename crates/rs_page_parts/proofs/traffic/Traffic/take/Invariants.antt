use Rattle.std.proofs.Common.{◌≡◌, ◌++◌, ℕ, List, length}
use Rattle.rs_page_parts.specs.Traffic.{HasCounted}
use Rattle.rs_page_parts.proofs.traffic.Traffic.take.Given as goal

-- what is left completes the piece
abbrev pub invariant-loop-rest : goal.invariant-loop-rest
invariant-loop-rest l = record {
  octets : l.self.octets ≡ l.initial.self.octets;
  counted : (before : ℕ) (octets : List ℕ) → HasCounted before octets l.fn.self → (done : List ℕ) × ((HasCounted before (octets ++ done) l.self) × (done ++ l.rest ≡ l.piece));
}

abbrev pub decreases-loop-rest : goal.decreases-loop-rest
decreases-loop-rest l = length l.rest
