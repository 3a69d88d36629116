use Rattle.std.proofs.Common.{◌-◌, ◌≤◌, [], length, take}
use Rattle.std.specs.Map.{keys_of}
use Rattle.rs_outlet.specs.Decided.Choices.{AreChoices}
use Rattle.rs_outlet.specs.Decided.Due.{due_to}
use Rattle.rs_outlet.specs.Decided.HeldBy.{held_by}
use Rattle.rs_outlet.specs.Decided.Memo.{IsMemo}
use Rattle.rs_outlet.specs.Decided.News.{AreFree}
use Rattle.rs_outlet.specs.Decided.Plans.{changes_in, news_in}
use Rattle.rs_outlet.specs.Decided.Precedents.{AreDecidedAt, AreKnown}
use Rattle.rs_outlet.proofs.serving.news_to.Given as goal

abbrev pub invariant-loop-at : goal.invariant-loop-at
invariant-loop-at l = record {
  within : l.at ≤ length l.touched;
  known : AreKnown (held_by l.sources) l.sources.ins.now l.sources.client l.speech l.known;
  choices : AreChoices (held_by l.sources) l.sources.ins.now l.draft.choices.kept.items;
  left : AreChoices (held_by l.sources) l.sources.ins.now l.choices.kept.items;
  memo : IsMemo l.sources.config.now l.sources.client l.draft.memo;
  free : AreFree l.rows.rows.items (news_in l.pieces.items);
  decided : AreDecidedAt l.sources.ins.now (due_to (held_by l.sources) l.sources.client l.speech) l.rows.rows.items (keys_of (take l.at l.touched)) [] (changes_in l.pieces.items);
}

abbrev pub decreases-loop-at : goal.decreases-loop-at
decreases-loop-at l = length l.touched - l.at
