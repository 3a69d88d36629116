use Rattle.std.proofs.Common.{◌/◌, sym, subst}
use Rattle.rs_attrs.specs.Marks.{mark_of, AreMarked}
use Rattle.rs_attrs.proofs.Unmarked.{left_kept, one_marked}
use Rattle.rs_attrs.proofs.marks.high_marks_of.Goals as goal

pub loop-community-preserved : goal.loop-community-preserved
loop-community-preserved c =
    let marks = c.loop-community.marks in
    let number = c.in-Some.community / 65536 in
    rw c.mark_of-marks.ensures (λ m among rest.
    c.loop-community.invariant m (λ n is. among n (left_kept marks (mark_of number) n is))
    (subst (AreMarked m) (sym c.in-Some.ensures.steps) (among number (one_marked marks number), rest)))

pub returns : goal.returns
returns c = c.loop-community.invariant c.loop-community.marks (λ n is. is) (subst (AreMarked c.loop-community.marks) (sym c.in-None.ensures.steps.0) tt)
