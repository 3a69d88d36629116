use Rattle.std.proofs.Common.{◌≡◌, ◌++◌, ◌∷◌, [], length-append, ◌∙◌, arith}
use Rattle.rs_policy.specs.Documents.{policy_checks, policy_from}
use Rattle.rs_policy.proofs.Reading.Checks.{passed_on_items, walk-next, walk-fails, walk-end}
use Rattle.rs_policy.proofs.Reading.Documents.{data_of-drop, data_of-end}
use Rattle.rs_policy.proofs.config.policies.read_policies.Goals as goal

pub returns-in_err-policy-clause-answers : goal.returns-in_err-policy-clause-answers
returns-in_err-policy-clause-answers c =
    passed_on_items _ _ _ c.from_residual-in_err-policy.ensures.1
    (λ other. c.loop-index.invariant.answer
    ∙ walk-fails (policy_from c.args.clients.now c.args.lists.now c.args.shared.now) (policy_checks c.args.clients.now c.args.lists.now c.args.shared.now) _ _ _ _ _ _
    (data_of-drop c.args.tables.now c.loop-index.index c.index-tables-index.result (omega arith) c.index-tables-index.is)
    (c.in_err-policy.ensures.1 other))

pub loop-index-preserved : goal.loop-index-preserved
loop-index-preserved c =
    let grown : c.push.new.self.items ≡ c.loop-index.policies.items ++ c.in_ok-policy.policy ∷ [] = c.in_ok-push.ensures.items in
    record {
      answer = rw grown
          (c.loop-index.invariant.answer
          ∙ walk-next (policy_from c.args.clients.now c.args.lists.now c.args.shared.now) (policy_checks c.args.clients.now c.args.lists.now c.args.shared.now) _ _ _ _ _ _
          (data_of-drop c.args.tables.now c.loop-index.index c.index-tables-index.result (omega arith) c.index-tables-index.is)
          c.in_ok-policy.ensures.0);
      count = rw grown (omega (arith, c.loop-index.invariant.count, length-append c.loop-index.policies.items (c.in_ok-policy.policy ∷ [])));
    }

pub returns-clause-answers : goal.returns-clause-answers
returns-clause-answers c = (
  c.loop-index.invariant.answer
      ∙ walk-end (policy_from c.args.clients.now c.args.lists.now c.args.shared.now) (policy_checks c.args.clients.now c.args.lists.now c.args.shared.now) _ _ _
      (data_of-end c.args.tables.now c.loop-index.index (omega arith)),
  tt,
)
