use Rattle.std.proofs.Common.{◌≡◌, ◌∙◌, ap, Ok, List}
use Rattle.rs_policy.specs.Configuration.{Stated}
use Rattle.rs_policy.specs.declared.rules.Item.{Item}
use Rattle.rs_policy.proofs.Reading.Checks.{answer-value, answer-append-ok, answer-append-err, answer-ok_for, answer-err_for, passed_on}
use Rattle.rs_policy.proofs.config.policies.Policy.read.Goals as goal

pub returns-in_err-import : goal.returns-in_err-import
returns-in_err-import c =
    passed_on _ _ _ c.from_residual.ensures.1 (λ other. answer-append-err _ _ _ _ _ (c.in_err-import.ensures.1 other))

pub returns-in_err-export : goal.returns-in_err-export
returns-in_err-export c =
    passed_on _ _ _ c.from_residual-in_err-export.ensures.1
    (λ other. answer-append-ok _ _ _ _ _ c.in_ok-import.ensures.0 ∙ answer-err_for _ _ _ _ (c.in_err-export.ensures.1 other))

policy_of_parts : (a a' b b' : List Item) → a ≡ a' → b ≡ b' → let x : Stated = record { import = a; export = b } in x ≡ record { import = a'; export = b' }
policy_of_parts a a' b b' e f = cc

pub returns : goal.returns
returns c = (
  answer-append-ok _ _ _ _ _ c.in_ok-import.ensures.0 ∙ answer-ok_for _ _ _ _ c.in_ok-export.ensures.0
      ∙ ap Ok (policy_of_parts _ _ _ _ (answer-value _ _ _ c.in_ok-import.ensures.0) (answer-value _ _ _ c.in_ok-export.ensures.0)),
  tt,
)
