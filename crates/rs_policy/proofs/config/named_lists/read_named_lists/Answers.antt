use Rattle.std.proofs.Common.{◌≡◌, ◌+◌, ◌-◌, ◌++◌, ◌∷◌, [], take, ◌∙◌, arith, length-append}
use Rattle.rs_policy.specs.Seen.{data_of}
use Rattle.rs_policy.specs.NamedLists.{named_list_checks, named_list_from, named_lists_from}
use Rattle.rs_policy.proofs.Reading.Checks.{passed_on_items, answer-value, each-next, walk-next, walk-fails, walk-end}
use Rattle.rs_policy.proofs.Reading.Documents.{data_of-drop, data_of-end}
use Rattle.rs_policy.proofs.Reading.Wholes.{earlier as those_earlier}
use Rattle.rs_policy.proofs.config.named_lists.read_named_lists.Goals as goal

pub returns-in_err-list : goal.returns-in_err-list
returns-in_err-list c =
    let earlier : c.deref.result.now ≡ take (c.loop-index.index + 1 - 1) (named_lists_from (data_of c.args.tables.now)) =
    c.deref.ensures.value ∙ those_earlier _ _ _ _ c.loop-index.invariant.lists c.loop-index.invariant.count in
    passed_on_items _ _ _ c.from_residual-in_err-list.ensures.1
    (λ other. c.loop-index.invariant.answer
    ∙ walk-fails named_list_from (λ n d. named_list_checks n (take (n - 1) (named_lists_from (data_of c.args.tables.now))) d) _ _ _ _ _ _
    (data_of-drop c.args.tables.now c.loop-index.index c.index-tables-index.result (omega arith) c.index-tables-index.is)
    (rw (← earlier) (c.in_err-list.ensures.1 other)))

pub loop-index-preserved : goal.loop-index-preserved
loop-index-preserved c =
    let earlier : c.deref.result.now ≡ take (c.loop-index.index + 1 - 1) (named_lists_from (data_of c.args.tables.now)) =
    c.deref.ensures.value ∙ those_earlier _ _ _ _ c.loop-index.invariant.lists c.loop-index.invariant.count in
    let grown : c.push.new.self.items ≡ c.loop-index.lists.items ++ c.in_ok-list.list ∷ [] = c.in_ok-push.ensures.items in
    let first = data_of-drop c.args.tables.now c.loop-index.index c.index-tables-index.result (omega arith) c.index-tables-index.is in
    record {
      answer = rw grown
          (c.loop-index.invariant.answer
          ∙ walk-next named_list_from (λ n d. named_list_checks n (take (n - 1) (named_lists_from (data_of c.args.tables.now))) d) _ _ _ _ _ _
          first (rw (← earlier) c.in_ok-list.ensures.0));
      lists = rw grown
          (c.loop-index.invariant.lists
          ∙ each-next named_list_from _ _ _ _ _ _ first (answer-value _ _ _ c.in_ok-list.ensures.0));
      count = rw grown (omega (arith, c.loop-index.invariant.count, length-append c.loop-index.lists.items (c.in_ok-list.list ∷ [])));
    }

pub returns : goal.returns
returns c = (
  c.loop-index.invariant.answer
      ∙ walk-end named_list_from (λ n d. named_list_checks n (take (n - 1) (named_lists_from (data_of c.args.tables.now))) d) _ _ _
      (data_of-end c.args.tables.now c.loop-index.index (omega arith)),
  tt,
)
