use Rattle.std.proofs.Common.{◌≡◌, ◌+◌, ◌-◌, ◌++◌, ◌∷◌, [], take, ◌∙◌, arith, length-append}
use Rattle.rs_policy.specs.Seen.{data_of}
use Rattle.rs_policy.specs.Documents.{shared_checks, shared_from, all_shared_from}
use Rattle.rs_policy.proofs.Reading.Checks.{passed_on_items, answer-value, each-next, walk-next, walk-fails, walk-end}
use Rattle.rs_policy.proofs.Reading.Documents.{data_of-drop, data_of-end}
use Rattle.rs_policy.proofs.Reading.Wholes.{earlier as those_earlier}
use Rattle.rs_policy.proofs.config.shared_rules.read_shared_rules.Goals as goal

pub returns-in_err-rules : goal.returns-in_err-rules
returns-in_err-rules c =
    let earlier : c.deref.result.now ≡ take (c.loop-index.index + 1 - 1) (all_shared_from c.args.clients.now c.args.lists.now (data_of c.args.tables.now)) =
    c.deref.ensures.value ∙ those_earlier _ _ _ _ c.loop-index.invariant.shared c.loop-index.invariant.count in
    passed_on_items _ _ _ c.from_residual-in_err-rules.ensures.1
    (λ other. c.loop-index.invariant.answer
    ∙ walk-fails (shared_from c.args.clients.now c.args.lists.now) (λ n d. shared_checks c.args.clients.now c.args.lists.now n (take (n - 1) (all_shared_from c.args.clients.now c.args.lists.now (data_of c.args.tables.now))) d) _ _ _ _ _ _
    (data_of-drop c.args.tables.now c.loop-index.index c.index-tables-index.result (omega arith) c.index-tables-index.is)
    (rw (← earlier) (c.in_err-rules.ensures.1 other)))

pub loop-index-preserved : goal.loop-index-preserved
loop-index-preserved c =
    let earlier : c.deref.result.now ≡ take (c.loop-index.index + 1 - 1) (all_shared_from c.args.clients.now c.args.lists.now (data_of c.args.tables.now)) =
    c.deref.ensures.value ∙ those_earlier _ _ _ _ c.loop-index.invariant.shared c.loop-index.invariant.count in
    let grown : c.push.new.self.items ≡ c.loop-index.shared.items ++ c.in_ok-rules.rules ∷ [] = c.in_ok-push.ensures.items in
    let first = data_of-drop c.args.tables.now c.loop-index.index c.index-tables-index.result (omega arith) c.index-tables-index.is in
    record {
      answer = rw grown
          (c.loop-index.invariant.answer
          ∙ walk-next (shared_from c.args.clients.now c.args.lists.now) (λ n d. shared_checks c.args.clients.now c.args.lists.now n (take (n - 1) (all_shared_from c.args.clients.now c.args.lists.now (data_of c.args.tables.now))) d) _ _ _ _ _ _
          first (rw (← earlier) c.in_ok-rules.ensures.0));
      shared = rw grown
          (c.loop-index.invariant.shared
          ∙ each-next (shared_from c.args.clients.now c.args.lists.now) _ _ _ _ _ _ first (answer-value _ _ _ c.in_ok-rules.ensures.0));
      count = rw grown (omega (arith, c.loop-index.invariant.count, length-append c.loop-index.shared.items (c.in_ok-rules.rules ∷ [])));
    }

pub returns : goal.returns
returns c = (
  c.loop-index.invariant.answer
      ∙ walk-end (shared_from c.args.clients.now c.args.lists.now) (λ n d. shared_checks c.args.clients.now c.args.lists.now n (take (n - 1) (all_shared_from c.args.clients.now c.args.lists.now (data_of c.args.tables.now))) d) _ _ _
      (data_of-end c.args.tables.now c.loop-index.index (omega arith)),
  tt,
)
