use Rattle.std.proofs.Common.{◌≡◌, ◌<◌, ◌+◌, length, take, arith, refl, subst, sym, ◌∙◌}
use Rattle.rs_outlet.specs.Decided.Choices.{AreChoices}
use Rattle.rs_outlet.specs.Decided.Due.{due_to}
use Rattle.rs_outlet.specs.Decided.HeldBy.{held_by}
use Rattle.rs_outlet.proofs.Answered.{got_at}
use Rattle.rs_outlet.proofs.Decided.Memo.{no_memo}
use Rattle.rs_outlet.specs.Decided.Touching.{is_numbered_in}
use Rattle.rs_outlet.proofs.Decided.Decisions.{none_decided, one_more_decided, entry_new, entry_more}
use Rattle.rs_outlet.proofs.Decided.Precedents.{decided_so}
use Rattle.std.specs.Prelude.{slice_get}
use Rattle.std.specs.Vec.{vec_len}
use Rattle.rs_outlet.proofs.turn.decide_touched.Goals as goal

pub loop-number-init : goal.loop-number-init
loop-number-init c = record {
  decided =
      none_decided c.args.sources.now.ins.now (due_to (held_by c.args.sources.now) c.args.sources.now.client c.args.speech) c.args.rows.now.rows.items
      _ _ c.in_ok-changes.ensures.items (λ m. refl);
  choices = subst (AreChoices (held_by c.args.sources.now) c.args.sources.now.ins.now) (sym c.from_choices-draft.ensures.made) c.requires.choices;
  known = c.requires.known;
  learned = c.requires.learned;
  memo = no_memo c.args.sources.now.config.now c.args.sources.now.client c.from_choices-draft.result.memo c.from_choices-draft.ensures.memo;
}

pub loop-number-preserved : goal.loop-number-preserved
loop-number-preserved c =
    let es = c.args.touched.now in
    let i = c.loop-number.number-index in
    let e = c.loop-number-item.result in
    let below : i < length es = omega arith in
    let many : vec_len c.loop-number.changes ≡ length c.loop-number.changes.items = omega (arith, c.loop-number.changes.ok) in
    record {
      decided =
          one_more_decided c.args.sources.now.ins.now (due_to (held_by c.args.sources.now) c.args.sources.now.client c.args.speech) c.args.rows.now.rows.items
          (is_numbered_in (take i es)) (is_numbered_in (take (i + 1) es)) e.0 c.loop-number.changes.items _ c.loop-number.invariant.decided
          (entry_new es i e c.requires.once below c.loop-number-item.is)
          c.in_ok-decide_next.ensures.changes
          (entry_more es i e below c.loop-number-item.is);
      choices = c.in_ok-decide_next.ensures.choices;
      known = c.in_ok-decide_next.ensures.known;
      learned = c.learn.ensures c.args.speech
          (decided_so c.args.sources.now.ins.now (due_to (held_by c.args.sources.now) c.args.sources.now.client c.args.speech) c.args.rows.now.rows.items e.0 c.loop-number.changes.items _ _ c.in_ok-decide_next.ensures.changes
          (got_at c.deref.result.now c.len-before.result c.get.result c.get.ensures.lookup.0 c.get.ensures.lookup.1 ∙ (λ j. slice_get (c.deref.ensures.value j) ((c.len-before.ensures ∙ many) j))))
          c.loop-number.invariant.learned;
      memo = c.in_ok-decide_next.ensures.memo;
    }
