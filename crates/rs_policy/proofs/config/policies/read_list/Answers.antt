use Rattle.std.proofs.Common.{◌≡◌, ◌++◌, ◌∷◌, [], ◌∙◌, arith}
use Rattle.rs_policy.specs.Documents.{rule_place, item_checks, item_of}
use Rattle.rs_policy.proofs.Reading.Checks.{fails_one, passed_on_items, walk-next, walk-fails, walk-end}
use Rattle.rs_policy.proofs.Reading.Documents.{data_of-drop, data_of-end}
use Rattle.rs_policy.proofs.Reading.Wholes.{list_passes}
use Rattle.rs_policy.proofs.config.policies.read_list.Goals as goal

pub returns-in_err-tables : goal.returns-in_err-tables
returns-in_err-tables c =
    passed_on_items _ _ _ c.from_residual.ensures.1 (λ _. fails_one _ _ _ _ (rw c.list_key.ensures at c.in_err-tables.ensures.tables))

pub loop-index-init : goal.loop-index-init
loop-index-init c =
    rw c.in_ok-items.ensures.items (list_passes c.args.clients.now c.args.lists.now c.args.shared.now c.args.client c.args.list _ _ (rw c.list_key.ensures at c.in_ok-tables.ensures.tables))

pub returns-in_err-item : goal.returns-in_err-item
returns-in_err-item c =
    passed_on_items _ _ _ c.from_residual-in_err-item.ensures.1
    (λ other. c.loop-index.invariant
    ∙ walk-fails (λ r d. item_of c.args.clients.now c.args.lists.now c.args.shared.now (rule_place c.args.client c.args.list r) d) (λ r d. item_checks c.args.clients.now c.args.lists.now c.args.shared.now (rule_place c.args.client c.args.list r) d) _ _ _ _ _ _
    (data_of-drop c.in_ok-tables.tables.now c.loop-index.index c.index-tables-index.result (omega arith) c.index-tables-index.is)
    (c.in_err-item.ensures.1 other))

pub loop-index-preserved : goal.loop-index-preserved
loop-index-preserved c =
    let grown : c.push.new.self.items ≡ c.loop-index.items.items ++ c.in_ok-item.item ∷ [] = c.in_ok-push.ensures.items in
    rw grown
    (c.loop-index.invariant
    ∙ walk-next (λ r d. item_of c.args.clients.now c.args.lists.now c.args.shared.now (rule_place c.args.client c.args.list r) d) (λ r d. item_checks c.args.clients.now c.args.lists.now c.args.shared.now (rule_place c.args.client c.args.list r) d) _ _ _ _ _ _
    (data_of-drop c.in_ok-tables.tables.now c.loop-index.index c.index-tables-index.result (omega arith) c.index-tables-index.is)
    c.in_ok-item.ensures.0)

pub returns : goal.returns
returns c = (
  c.loop-index.invariant
      ∙ walk-end (λ r d. item_of c.args.clients.now c.args.lists.now c.args.shared.now (rule_place c.args.client c.args.list r) d) (λ r d. item_checks c.args.clients.now c.args.lists.now c.args.shared.now (rule_place c.args.client c.args.list r) d) _ _ _
      (data_of-end c.in_ok-tables.tables.now c.loop-index.index (omega arith)),
  tt,
)
