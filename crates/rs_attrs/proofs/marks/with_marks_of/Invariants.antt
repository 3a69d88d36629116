use Rattle.std.proofs.Common.{ℕ}
use Rattle.rs_attrs.specs.Marks.{AreNumbersMarked, KeepsMarks}
use Rattle.rs_attrs.proofs.marks.with_marks_of.Given as goal

-- what marks what is left, too, marks all
abbrev pub invariant-loop-number : goal.invariant-loop-number
invariant-loop-number l = record {
  kept : KeepsMarks l.before l.marks;
  marked : (m : ℕ) → KeepsMarks l.marks m → AreNumbersMarked m l.number-iterator → AreNumbersMarked m l.fn.numbers;
}
