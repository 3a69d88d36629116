use Rattle.std.proofs.Common.{◌≡◌, ◌++◌, ◌∷◌, [], ◌∙◌, sym, arith, length-append}
use Rattle.rs_policy.proofs.Reading.Documents.{data_of-drop, data_of-end}
use Rattle.rs_policy.proofs.Reading.Entries.{entries-next, entries-fail, entries-end}
use Rattle.rs_policy.proofs.config.named_lists.entries_of.Goals as goal

pub returns-in_default-clause-entries : goal.returns-in_default-clause-entries
returns-in_default-clause-entries g c = (
  tt,
  λ _. c.loop-index.invariant.entries
      ∙ entries-fail _ _ _ _ _ _ _ _
      (data_of-drop c.args.values.now c.loop-index.index c.index-values-index.result (omega arith) c.index-values-index.is)
      (sym c.in_default.ensures),
)

pub loop-index-preserved : goal.loop-index-preserved
loop-index-preserved g c =
    let grown : c.push.new.self.items ≡ c.loop-index.entries.items ++ c.in-Some.entry ∷ [] = c.in_ok-push.ensures.items in
    record {
      entries = rw grown
          (c.loop-index.invariant.entries
          ∙ entries-next _ _ _ _ _ _ _ _ _
          (data_of-drop c.args.values.now c.loop-index.index c.index-values-index.result (omega arith) c.index-values-index.is)
          (sym c.in-Some.ensures));
      count = rw grown (omega (arith, c.loop-index.invariant.count, length-append c.loop-index.entries.items (c.in-Some.entry ∷ [])));
    }

pub returns-clause-entries : goal.returns-clause-entries
returns-clause-entries g c = (
  c.loop-index.invariant.entries
      ∙ entries-end _ _ _ _ _ _ (data_of-end c.args.values.now c.loop-index.index (omega arith)),
  tt,
)
