use Rattle.std.proofs.Common.{sym, subst}
use Rattle.rs_attrs.specs.Marks.{mark_of, AreNumbersMarked}
use Rattle.rs_attrs.proofs.Unmarked.{left_kept, one_marked}
use Rattle.rs_attrs.proofs.marks.with_marks_of.Goals as goal

pub loop-number-preserved : goal.loop-number-preserved
loop-number-preserved c =
    let marks = c.loop-number.marks in
    let number = c.in-Some.number in
    rw c.mark_of-marks.ensures (record {
      kept = λ n is. left_kept marks (mark_of number) n (c.loop-number.invariant.kept n is);
      marked = λ m among rest.
          c.loop-number.invariant.marked m (λ n is. among n (left_kept marks (mark_of number) n is))
          (subst (AreNumbersMarked m) (sym c.in-Some.ensures.steps) (among number (one_marked marks number), rest));
    })

pub loop-number-init : goal.loop-number-init
loop-number-init c = record {
  kept = λ n is. is;
  marked = λ m among rest. subst (AreNumbersMarked m) c.into_iter-number-iterator.ensures.into_iter_gives rest;
}

pub returns : goal.returns
returns c = record {
  kept = c.loop-number.invariant.kept;
  marked = c.loop-number.invariant.marked c.loop-number.marks (λ n is. is) (subst (AreNumbersMarked c.loop-number.marks) (sym c.in-None.ensures.steps.0) tt);
}
