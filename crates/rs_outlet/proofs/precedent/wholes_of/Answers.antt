use Rattle.std.proofs.Common.{◌-◌, length, map, take, drop, sym, subst}
use Rattle.std.specs.List.{AllByRecursion}
use Rattle.rs_outlet.specs.declared.filled.Whole.{Whole}
use Rattle.rs_outlet.specs.Decided.News.{change_of}
use Rattle.rs_outlet.specs.Decided.Plans.{news_within}
use Rattle.rs_outlet.specs.Decided.Precedents.{AreDueAlike}
use Rattle.rs_outlet.proofs.Answered.{if_some_at}
use Rattle.rs_outlet.proofs.Decided.Precedents.{due_behind, due_first, still_known, wholes_push}
use Rattle.rs_outlet.proofs.precedent.wholes_of.Goals as goal
use Rattle.rs_outlet.proofs.precedent.wholes_of.Goals.{in-Some+in_ok-push, in_default}

pub loop-index-preserved : goal.loop-index-preserved
loop-index-preserved c = record {
  known = λ t ins client speech known. still_known t ins client speech c.loop-index.known _ c.first_whole.ensures.rest (c.loop-index.invariant.known t ins client speech known);
  due = λ t ins client speech known due.
      let P = λ (w : Whole). AreDueAlike t ins client speech (map change_of (news_within w)) in
      let cs = c.args.changes.now in
      let i = c.loop-index.index in
      let so_far = c.loop-index.invariant.due t ins client speech known due in
      let slice = take (length cs - i) (drop i cs) in
      let here = due_first t ins client speech (length cs - i) (drop i cs) (due_behind t ins client speech i cs due) in
      let still = c.loop-index.invariant.known t ins client speech known in
      elim c.match-branch-2.branch [
        | in-Some+in_ok-push w ↦
            subst (λ (v : _). AllByRecursion P v.items) (sym w.wholes-is)
            (subst (AllByRecursion P) (sym w.in_ok-push.ensures.items)
            (wholes_push t ins client speech c.loop-index.wholes.items w.in-Some.whole so_far (if_some_at _ c.in_ok-whole.field-0 w.in-Some.whole w.in-Some.is (c.in_ok-whole.ensures.due t ins client speech still here))))
        | in_default w ↦ subst (λ (v : _). AllByRecursion P v.items) (sym w.wholes-is) so_far
      ];
}
