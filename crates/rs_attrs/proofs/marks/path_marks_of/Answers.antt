use Rattle.std.proofs.Common.{sym, subst}
use Rattle.rs_attrs.specs.Marks.{AreNumbersMarked, IsPathMarked}
use Rattle.rs_attrs.proofs.Unmarked.{more_marked}
use Rattle.rs_attrs.proofs.marks.path_marks_of.Goals as goal

pub loop-segment-preserved : goal.loop-segment-preserved
loop-segment-preserved c =
    let with = c.with_marks_of-marks in
    let here = subst (AreNumbersMarked with.result) c.numbers.ensures with.ensures.marked in
    λ m among rest.
    c.loop-segment.invariant m (λ n is. among n (with.ensures.kept n is))
    (subst (IsPathMarked m) (sym c.in-Some.ensures.steps) (more_marked with.result m c.in-Some.segment.numbers among here, rest))

pub loop-segment-init : goal.loop-segment-init
loop-segment-init c = λ m among rest. subst (IsPathMarked m) c.into_iter-segment-iterator.ensures.into_iter_gives rest

pub returns : goal.returns
returns c = c.loop-segment.invariant c.loop-segment.marks (λ n is. is) (subst (IsPathMarked c.loop-segment.marks) (sym c.in-None.ensures.steps.0) tt)
