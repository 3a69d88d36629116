use Rattle.std.proofs.Common.{ℕ}
use Rattle.rs_attrs.specs.Marks.{IsPathMarked, KeepsMarks}
use Rattle.rs_attrs.proofs.marks.path_marks_of.Given as goal

-- what marks what is left, too, marks all
abbrev pub invariant-loop-segment : goal.invariant-loop-segment
invariant-loop-segment l = (m : ℕ) → KeepsMarks l.marks m → IsPathMarked m l.segment-iterator → IsPathMarked m l.fn.path
