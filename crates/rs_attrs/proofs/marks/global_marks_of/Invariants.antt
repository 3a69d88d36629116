use Rattle.std.proofs.Common.{ℕ}
use Rattle.rs_attrs.specs.Marks.{AreLargeMarked, KeepsMarks}
use Rattle.rs_attrs.specs.Patterns.{large_communities_in}
use Rattle.rs_attrs.proofs.marks.global_marks_of.Given as goal

-- what marks what is left, too, marks all
abbrev pub invariant-loop-community : goal.invariant-loop-community
invariant-loop-community l = (m : ℕ) → KeepsMarks l.marks m → AreLargeMarked m l.community-iterator → AreLargeMarked m (large_communities_in l.communities)
