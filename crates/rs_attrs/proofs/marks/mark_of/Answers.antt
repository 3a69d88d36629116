use Rattle.std.proofs.Common.{◌%◌, arith}
use Rattle.std.proofs.lemmas.Nat.{one_shl}
use Rattle.rs_attrs.proofs.marks.mark_of.Goals as goal

pub returns : goal.returns
returns c = one_shl (c.args.number % 32) 32 (omega arith)
