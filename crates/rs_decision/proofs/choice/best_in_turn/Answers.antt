use Rattle.std.proofs.Common.{sym, ◌∙◌, refl}
use Rattle.rs_decision.proofs.Compared.{reach_goes_on, one_is_next, fewer_after, reached_is_left}
use Rattle.rs_decision.proofs.choice.best_in_turn.Goals as goal

pub returns-in_err-turn : goal.returns-in_err-turn
returns-in_err-turn c = absurd (one_is_next c.args.ranks.now c.loop-turn.turn c.requires.distinct c.loop-turn.invariant (sym c.loses_by_med.ensures ∙ c.loop-turn-test.true) (c.in_err-turn.ensures.none refl))

pub loop-turn-smaller : goal.loop-turn-smaller
loop-turn-smaller c = fewer_after c.args.ranks.now c.loop-turn.turn c.in_ok-turn.turn c.in_ok-turn.turn refl c.in_ok-turn.ensures.next

pub loop-turn-preserved : goal.loop-turn-preserved
loop-turn-preserved c =
    reach_goes_on c.args.ranks.now c.loop-turn.turn c.in_ok-turn.turn c.in_ok-turn.turn c.requires.distinct c.loop-turn.invariant (sym c.loses_by_med.ensures ∙ c.loop-turn-test.true) refl c.in_ok-turn.ensures.next

pub returns-clause-left : goal.returns-clause-left
returns-clause-left c = reached_is_left c.args.ranks.now c.loop-turn.turn c.requires.distinct c.loop-turn.invariant (sym c.loses_by_med.ensures ∙ c.loop-turn-test.false)
