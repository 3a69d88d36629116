use Rattle.std.proofs.Common.{true, sym, ◌∙◌}
use Rattle.rs_policy.specs.Documents.{shared_checks}
use Rattle.rs_policy.proofs.Reading.Checks.{passed_on, passes_one, fails_one}
use Rattle.rs_policy.proofs.Reading.SharedRules.{twice_if, head_is, shared_fails, shared_passes}
use Rattle.rs_policy.proofs.config.shared_rules.SharedRules.read.Goals as goal

pub returns-in_err-name : goal.returns-in_err-name
unfolding shared_checks
returns-in_err-name c = passed_on _ _ _ c.from_residual.ensures.1 (λ _. fails_one _ _ _ _ c.in_err-name.ensures)

pub returns-in_err-tables : goal.returns-in_err-tables
unfolding shared_checks
returns-in_err-tables c =
    passed_on _ _ _ c.from_residual-in_err-tables.ensures.1 (λ _. passes_one _ _ _ _ c.in_ok-name.ensures ∙ fails_one _ _ _ _ c.in_err-tables.ensures)

pub returns-in_err-refuse_others : goal.returns-in_err-refuse_others
unfolding shared_checks
returns-in_err-refuse_others c =
    passed_on _ _ _ c.from_residual-in_err-refuse_others.ensures.1
    (λ _. passes_one _ _ _ _ c.in_ok-name.ensures ∙ passes_one _ _ _ _ c.in_ok-tables.ensures ∙ fails_one _ _ _ _ c.in_err-refuse_others.ensures)

pub returns-then-is_among : goal.returns-then-is_among
unfolding shared_checks
returns-then-is_among c = (
  tt,
  λ _. passes_one _ _ _ _ c.in_ok-name.ensures ∙ passes_one _ _ _ _ c.in_ok-tables.ensures ∙ passes_one _ _ _ _ c.in_ok-refuse_others.ensures
      ∙ fails_one _ _ _ _ (sym (twice_if _ _ _ _ true c.in_ok-name.ensures (sym c.if-is_among.true ∙ c.is_among.ensures))),
)

pub returns-in_err-rules : goal.returns-in_err-rules
returns-in_err-rules c =
    passed_on _ _ _ c.from_residual-in_err-rules.ensures.1
    (λ other. shared_fails _ _ _ _ _ _ _ _
    (head_is _ _ _ _ _ c.in_ok-name.ensures c.in_ok-tables.ensures c.in_ok-refuse_others.ensures (sym c.if-is_among.false ∙ c.is_among.ensures))
    (c.in_err-rules.ensures.1 other))

pub returns : goal.returns
returns c = (
  shared_passes _ _ _ _ _ _ _ _ _
      (head_is _ _ _ _ _ c.in_ok-name.ensures c.in_ok-tables.ensures c.in_ok-refuse_others.ensures (sym c.if-is_among.false ∙ c.is_among.ensures))
      c.in_ok-rules.ensures.0 c.in_ok-from_str.ensures.ok,
  tt,
)
