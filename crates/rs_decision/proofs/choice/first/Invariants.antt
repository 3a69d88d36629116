use Rattle.std.proofs.Common.{◌≡◌, ◌<◌, ℕ, false, length}
use Rattle.rs_decision.specs.Rank.{precedes, rank_at}
use Rattle.rs_decision.proofs.choice.first.Given as goal

abbrev pub invariant-loop-i : goal.invariant-loop-i
invariant-loop-i l = record {
  within : l.first < length l.ranks;
  first : (k : ℕ) → k < l.i → precedes (rank_at l.ranks k) (rank_at l.ranks l.first) ≡ false;
}
