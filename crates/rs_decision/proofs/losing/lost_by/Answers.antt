use Rattle.std.proofs.Common.{refl, ◌∙◌}
use Rattle.rs_decision.proofs.Lost.{lost_at, none_at, none_within}
use Rattle.rs_decision.proofs.losing.lost_by.Goals as goal

pub returns-in_err-best-clause-step : goal.returns-in_err-best-clause-step
returns-in_err-best-clause-step c = absurd (none_within c.args.ranks.now c.args.candidate c.requires.within (c.in_err-best.ensures.none.0 refl))

pub returns-in_err-best-clause-none : goal.returns-in_err-best-clause-none
returns-in_err-best-clause-none c = absurd (none_within c.args.ranks.now c.args.candidate c.requires.within (c.in_err-best.ensures.none.0 refl))

pub returns-clause-step : goal.returns-clause-step
returns-clause-step c = c.lost_to.ensures ∙ lost_at c.args.ranks.now c.args.candidate c.in_ok-best.best c.requires.distinct c.requires.within c.in_ok-best.ensures.left

pub returns-clause-none : goal.returns-clause-none
returns-clause-none c = rw c.lost_to.ensures (none_at c.args.ranks.now c.args.candidate c.in_ok-best.best c.requires.distinct c.requires.within c.in_ok-best.ensures.left)
