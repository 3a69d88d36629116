use Rattle.std.proofs.Common.{ℕ}
use Rattle.rs_attrs.specs.Marks.{AreMarked, KeepsMarks}
use Rattle.rs_attrs.specs.Paths.{quads}
use Rattle.rs_attrs.proofs.marks.high_marks_of.Given as goal

-- what marks what is left, too, marks all
abbrev pub invariant-loop-community : goal.invariant-loop-community
invariant-loop-community l = (m : ℕ) → KeepsMarks l.marks m → AreMarked m l.community-iterator → AreMarked m (quads l.communities)
