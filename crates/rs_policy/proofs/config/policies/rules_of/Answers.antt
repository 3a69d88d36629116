use Rattle.std.proofs.Common.{◌≡◌, ◌++◌, ◌∷◌, [], ◌∙◌, arith}
use Rattle.rs_policy.specs.Rules.{rule_checks, rule_of}
use Rattle.rs_policy.specs.Documents.{rule_place}
use Rattle.rs_policy.proofs.Reading.Checks.{passed_on_items, walk-next, walk-fails, walk-end}
use Rattle.rs_policy.proofs.Reading.Documents.{data_of-drop, data_of-end}
use Rattle.rs_policy.proofs.config.policies.rules_of.Goals as goal

pub returns-in_err-rule : goal.returns-in_err-rule
returns-in_err-rule c =
    passed_on_items _ _ _ c.from_residual-in_err-rule.ensures.1
    (λ other. c.loop-index.invariant
    ∙ walk-fails (λ r d. rule_of c.args.clients.now c.args.lists.now (rule_place c.args.number c.args.list r) d) (λ r d. rule_checks c.args.clients.now c.args.lists.now (rule_place c.args.number c.args.list r) d) _ _ _ _ _ _
    (data_of-drop c.args.tables.now c.loop-index.index c.index-tables-index.result (omega arith) c.index-tables-index.is)
    (c.in_err-rule.ensures.1 other))

pub loop-index-preserved : goal.loop-index-preserved
loop-index-preserved c =
    let grown : c.push.new.self.items ≡ c.loop-index.rules.items ++ c.in_ok-rule.rule ∷ [] = c.in_ok-push.ensures.items in
    rw grown
    (c.loop-index.invariant
    ∙ walk-next (λ r d. rule_of c.args.clients.now c.args.lists.now (rule_place c.args.number c.args.list r) d) (λ r d. rule_checks c.args.clients.now c.args.lists.now (rule_place c.args.number c.args.list r) d) _ _ _ _ _ _
    (data_of-drop c.args.tables.now c.loop-index.index c.index-tables-index.result (omega arith) c.index-tables-index.is)
    c.in_ok-rule.ensures.0)

pub returns : goal.returns
returns c = (
  c.loop-index.invariant
      ∙ walk-end (λ r d. rule_of c.args.clients.now c.args.lists.now (rule_place c.args.number c.args.list r) d) (λ r d. rule_checks c.args.clients.now c.args.lists.now (rule_place c.args.number c.args.list r) d) _ _ _
      (data_of-end c.args.tables.now c.loop-index.index (omega arith)),
  tt,
)
