use Rattle.std.proofs.Common.{◌≡◌, ◌∙◌, ap, sym, Ok, Option}
use Rattle.rs_policy.specs.declared.rules.Range.{Range}
use Rattle.rs_policy.specs.declared.rules.Tests.{Tests}
use Rattle.rs_policy.specs.declared.rules.Action.{Action}
use Rattle.rs_policy.specs.declared.rules.Rule.{Rule}
use Rattle.rs_policy.proofs.Reading.Checks.{passes, fails, passes_one, fails_one, answer-none, answer-value, answer-append-ok, answer-append-err, passed_on}
use Rattle.rs_policy.proofs.config.rule_tables.read_rule.Goals as goal

pub returns-in_err-range : goal.returns-in_err-range
returns-in_err-range c =
    passed_on _ _ _ c.from_residual.ensures.1 (λ _. fails _ _ _ _ _ c.in_err-range.ensures)

pub returns-in_err-tests : goal.returns-in_err-tests
returns-in_err-tests c =
    passed_on _ _ _ c.from_residual-in_err-tests.ensures.1
    (λ _. passes _ _ _ _ _ c.in_ok-range.ensures ∙ fails _ _ _ _ _ c.in_err-tests.ensures)

pub returns-in_err-action : goal.returns-in_err-action
returns-in_err-action c =
    passed_on _ _ _ c.from_residual-in_err-action.ensures.1
    (λ other. passes _ _ _ _ _ c.in_ok-range.ensures ∙ passes _ _ _ _ _ c.in_ok-tests.ensures
    ∙ answer-append-err _ _ _ _ _ (c.in_err-action.ensures.1 other))

pub returns-in_err-refuse_others : goal.returns-in_err-refuse_others
returns-in_err-refuse_others c =
    passed_on _ _ _ c.from_residual-in_err-refuse_others.ensures.1
    (λ _. passes _ _ _ _ _ c.in_ok-range.ensures ∙ passes _ _ _ _ _ c.in_ok-tests.ensures
    ∙ answer-append-ok _ _ _ _ _ c.in_ok-action.ensures.0 ∙ fails_one _ _ _ _ c.in_err-refuse_others.ensures)

rule_of_parts : (r r' : Option Range) (t t' : Tests) (a a' : Action) → r ≡ r' → t ≡ t' → a ≡ a' → let x : Rule = record { range = r; tests = t; action = a } in x ≡ record { range = r'; tests = t'; action = a' }
rule_of_parts r r' t t' a a' e f g = cc

pub returns : goal.returns
returns c = (
  passes _ _ _ _ _ c.in_ok-range.ensures ∙ passes _ _ _ _ _ c.in_ok-tests.ensures
      ∙ answer-append-ok _ _ _ _ _ c.in_ok-action.ensures.0 ∙ passes_one _ _ _ _ c.in_ok-refuse_others.ensures
      ∙ answer-none _
      ∙ ap Ok (rule_of_parts _ _ _ _ _ _ (answer-value _ _ _ (sym c.in_ok-range.ensures)) (answer-value _ _ _ (sym c.in_ok-tests.ensures)) (answer-value _ _ _ c.in_ok-action.ensures.0)),
  tt,
)
