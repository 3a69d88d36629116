use Rattle.std.proofs.Common.{◌≤◌, ◌-◌, nat_lt}
use Rattle.rs_outlet.specs.Decided.Choices.{AreChoices}
use Rattle.rs_outlet.specs.Decided.Counted.{is_counted_below}
use Rattle.rs_outlet.specs.Decided.Due.{any_holds, due_to}
use Rattle.rs_outlet.specs.Decided.HeldBy.{held_by}
use Rattle.rs_outlet.specs.Decided.Memo.{IsMemo}
use Rattle.rs_outlet.specs.Decided.Plans.{changes_in}
use Rattle.rs_outlet.specs.Inside.{AreDecided}
use Rattle.rs_outlet.specs.Views.{IsNumberOf}
use Rattle.rs_outlet.proofs.turn.decide_news.Given as goal

abbrev pub invariant-loop-from : goal.invariant-loop-from
invariant-loop-from l = record {
  within : l.from ≤ l.numbers;
  changes : AreDecided l.sources.ins.now (due_to (held_by l.sources) l.sources.client l.speech) l.rows.rows.items (λ m. nat_lt m l.from) (changes_in l.pieces.items);
  choices : AreChoices (held_by l.sources) l.sources.ins.now l.draft.choices.kept.items;
  memo : IsMemo l.sources.config.now l.sources.client l.draft.memo;
  most : l.count ≤ l.from;
  count : IsNumberOf (is_counted_below l.sources.ins.now l.rows.rows.items (any_holds (held_by l.sources)) l.from) l.count;
}

abbrev pub decreases-loop-from : goal.decreases-loop-from
decreases-loop-from l = l.numbers - l.from
