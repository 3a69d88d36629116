use Rattle.rs_decision.specs.Rank.{rank_at}
use Rattle.rs_decision.proofs.Compared.{IsReached, count_after}
use Rattle.rs_decision.proofs.choice.best_in_turn.Given as goal

abbrev pub invariant-loop-turn : goal.invariant-loop-turn
invariant-loop-turn l = IsReached l.ranks l.turn

abbrev pub decreases-loop-turn : goal.decreases-loop-turn
decreases-loop-turn l = count_after l.ranks (rank_at l.ranks l.turn)
