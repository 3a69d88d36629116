use Rattle.std.proofs.Common.{◌≡◌, ◌∙◌, ◌≤◌, ◌-◌, ◌++◌, List, [], length, take, drop, arith, ap, sym, subst}
use Rattle.std.specs.Map.{keys_of}
use Rattle.std.proofs.lemmas.List.{length-drop}
use Rattle.std.proofs.lemmas.Bool.Decides.{nat_tests}
use Rattle.rs_outlet.specs.declared.pieces.Piece.{Piece}
use Rattle.rs_outlet.specs.Decided.Choices.{AreChoices}
use Rattle.rs_outlet.specs.Decided.Due.{due_to}
use Rattle.rs_outlet.specs.Decided.HeldBy.{held_by}
use Rattle.rs_outlet.specs.Decided.News.{AreFree}
use Rattle.rs_outlet.specs.Decided.Plans.{changes_in, news_in}
use Rattle.rs_outlet.specs.Decided.Precedents.{AreDecidedAt}
use Rattle.rs_outlet.proofs.Answered.{if_some_at}
use Rattle.rs_outlet.proofs.Decided.Memo.{no_memo}
use Rattle.rs_outlet.proofs.Decided.Precedents.{decided_all, decided_join, keys_all, keys_more, still_known}
use Rattle.rs_outlet.proofs.Message.Ranges.{take_rest}
use Rattle.rs_outlet.proofs.serving.news_to.Goals as goal

pub loop-at-init : goal.loop-at-init
loop-at-init c =
    let s = c.args.sources.now in
    let due_at = due_to (held_by s) s.client c.args.speech in
    record {
      within = omega arith;
      known = c.requires.known;
      choices = subst (AreChoices (held_by s) s.ins.now) (sym c.from_choices-draft.ensures.made) c.requires.choices;
      memo = no_memo s.config.now s.client c.from_choices-draft.result.memo c.from_choices-draft.ensures.memo;
      left = subst (AreChoices (held_by s) s.ins.now) (sym c.from_choices-draft.ensures.none) tt;
      free = subst (λ (ps : List Piece). AreFree c.args.rows.now.rows.items (news_in ps)) (sym c.new-pieces.ensures.items) tt;
      decided = ap changes_in c.new-pieces.ensures.items;
    }

pub loop-at-preserved : goal.loop-at-preserved
loop-at-preserved c =
    let s = c.args.sources.now in
    let t = held_by s in
    let rows = c.args.rows.now.rows.items in
    let es = c.args.touched.now in
    let inv = c.loop-at.invariant in
    let at = c.loop-at.at in
    let count = c.in-Some.count in
    let slice = take (length es - at) (drop at es) in
    let new = c.list_first.new.pieces.items in
    let many : count ≤ length slice = if_some_at _ c.in_ok-count.field-0 count c.in-Some.is c.in_ok-count.ensures.many in
    let is : slice ≡ drop at es = take_rest at es in
    let more = if_some_at _ c.in_ok-count.field-0 count c.in-Some.is c.in_ok-count.ensures.decided in
    record {
      within = omega (arith, many, ap length is, length-drop at es, inv.within);
      known = still_known t s.ins.now s.client c.args.speech c.loop-at.known _ c.list_first.ensures.rest inv.known;
      choices = c.in_ok-count.ensures.choices;
      memo = c.in_ok-count.ensures.memo;
      left = inv.left;
      free = if_some_at _ c.in_ok-count.field-0 count c.in-Some.is c.in_ok-count.ensures.free inv.free;
      decided =
          subst (λ ks. AreDecidedAt s.ins.now (due_to t s.client c.args.speech) rows ks [] (changes_in new)) (sym (keys_more es at count ∙ ap (λ xs. keys_of (take at es) ++ keys_of (take count xs)) (sym is)))
          (decided_join s.ins.now (due_to t s.client c.args.speech) rows (keys_of (take at es)) (keys_of (take count slice)) [] (changes_in c.loop-at.pieces.items) (changes_in new) inv.decided more);
    }

pub returns-clause-decided : goal.returns-clause-decided
returns-clause-decided c =
    let s = c.args.sources.now in
    let t = held_by s in
    let rows = c.args.rows.now.rows.items in
    let es = c.args.touched.now in
    let inv = c.loop-at.invariant in
    decided_all s.ins.now (due_to t s.client c.args.speech) rows (keys_of es) (changes_in c.loop-at.pieces.items) c.requires.once
    (subst (λ ks. AreDecidedAt s.ins.now (due_to t s.client c.args.speech) rows ks [] (changes_in c.loop-at.pieces.items)) (keys_all es c.loop-at.at (let over = c.loop-at-test.false in grind (arith, nat_tests, over))) inv.decided)

pub returns-in_err-count-clause-choices : goal.returns-in_err-count-clause-choices
returns-in_err-count-clause-choices c = c.loop-at.invariant.left
