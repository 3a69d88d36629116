use Rattle.std.proofs.Common.{◌≤◌, ◌++◌, List, nat_lt}
use Rattle.rs_outlet.specs.declared.changes.Change.{Change}
use Rattle.rs_outlet.specs.Decided.Choices.{AreChoices}
use Rattle.rs_outlet.specs.Decided.Counted.{is_counted_below}
use Rattle.rs_outlet.specs.Decided.Due.{any_holds, due_to}
use Rattle.rs_outlet.specs.Decided.HeldBy.{held_by}
use Rattle.rs_outlet.specs.Decided.Memo.{IsMemo}
use Rattle.rs_outlet.specs.Inside.{AreDecided}
use Rattle.rs_outlet.specs.Views.{IsNumberOf}
use Rattle.rs_outlet.proofs.turn.decide_numbers.Given as goal

abbrev pub invariant-loop-number : goal.invariant-loop-number
invariant-loop-number l = record {
  within : l.number ≤ l.end;
  changes : (front : List Change) → AreDecided l.sources.ins.now (due_to (held_by l.sources) l.sources.client l.speech) l.rows.rows.items (λ m. nat_lt m l.fn.from) (front ++ l.fn.changes.items) → AreDecided l.sources.ins.now (due_to (held_by l.sources) l.sources.client l.speech) l.rows.rows.items (λ m. nat_lt m l.number) (front ++ l.changes.items);
  choices : AreChoices (held_by l.sources) l.sources.ins.now l.draft.choices.kept.items;
  memo : IsMemo l.sources.config.now l.sources.client l.draft.memo;
  most : l.count ≤ l.number;
  count : IsNumberOf (is_counted_below l.sources.ins.now l.rows.rows.items (any_holds (held_by l.sources)) l.number) l.count;
}
