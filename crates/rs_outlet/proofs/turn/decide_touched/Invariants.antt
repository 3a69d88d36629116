use Rattle.std.proofs.Common.{take}
use Rattle.rs_outlet.specs.Decided.Choices.{AreChoices}
use Rattle.rs_outlet.specs.Decided.Due.{due_to}
use Rattle.rs_outlet.specs.Decided.HeldBy.{held_by}
use Rattle.rs_outlet.specs.Decided.Memo.{IsMemo}
use Rattle.std.specs.Prelude.{IfSome}
use Rattle.rs_outlet.specs.Decided.Precedents.{AreDueAlike, AreKnown}
use Rattle.rs_outlet.specs.Inside.{AreDecided}
use Rattle.rs_outlet.specs.Decided.Touching.{is_numbered_in}
use Rattle.rs_outlet.proofs.turn.decide_touched.Given as goal

abbrev pub invariant-loop-number : goal.invariant-loop-number
invariant-loop-number l = record {
  decided : AreDecided l.sources.ins.now (due_to (held_by l.sources) l.sources.client l.speech) l.rows.rows.items (is_numbered_in (take l.number-index l.touched)) l.changes.items;
  choices : AreChoices (held_by l.sources) l.sources.ins.now l.draft.choices.kept.items;
  known : AreKnown (held_by l.sources) l.sources.ins.now l.sources.client l.speech l.known;
  learned : IfSome l.learned (λ learned. AreDueAlike (held_by l.sources) l.sources.ins.now l.sources.client l.speech learned.items);
  memo : IsMemo l.sources.config.now l.sources.client l.draft.memo;
}
