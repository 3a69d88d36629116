use Rattle.std.proofs.Common.{subst}
use Rattle.std.specs.Int.Bits.{bit_or}
use Rattle.rs_attrs.specs.Marks.{KeepsMarks}
use Rattle.rs_attrs.proofs.Unmarked.{left_kept, right_kept}
use Rattle.rs_attrs.proofs.marks.TagMarks.and.Goals as goal

pub returns-clause-kept : goal.returns-clause-kept
returns-clause-kept c = (left_kept c.args.self.communities c.part_marks.result, λ n is. is)

pub returns-clause-asked : goal.returns-clause-asked
returns-clause-asked c = subst (λ m. KeepsMarks m (bit_or c.args.self.communities c.part_marks.result)) c.part_marks.ensures (right_kept c.args.self.communities c.part_marks.result)
