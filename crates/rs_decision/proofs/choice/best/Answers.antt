use Rattle.std.proofs.Common.{sym, ◌∙◌, refl}
use Rattle.rs_decision.proofs.Compared.{first_is_reached, reached_is_left, only_is_best, none_is_best}
use Rattle.rs_decision.proofs.choice.best.Goals as goal

pub returns-in_err-best-clause-value : goal.returns-in_err-best-clause-value
returns-in_err-best-clause-value c = rw c.from_residual.ensures (none_is_best c.args.ranks.now (c.in_err-best.ensures.none.0 refl))

pub returns-then-not-loses_by_med-clause-left : goal.returns-then-not-loses_by_med-clause-left
returns-then-not-loses_by_med-clause-left c =
    reached_is_left c.args.ranks.now c.in_ok-best.best c.requires (first_is_reached c.args.ranks.now c.in_ok-best.best c.in_ok-best.ensures.first) (sym c.loses_by_med.ensures ∙ c.if-not-loses_by_med.true)

pub returns-then-not-loses_by_med-clause-value : goal.returns-then-not-loses_by_med-clause-value
returns-then-not-loses_by_med-clause-value c =
    only_is_best c.args.ranks.now c.in_ok-best.best
    (reached_is_left c.args.ranks.now c.in_ok-best.best c.requires (first_is_reached c.args.ranks.now c.in_ok-best.best c.in_ok-best.ensures.first) (sym c.loses_by_med.ensures ∙ c.if-not-loses_by_med.true))
