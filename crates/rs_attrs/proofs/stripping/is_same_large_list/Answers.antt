use Rattle.std.proofs.lemmas.Slice.Eq.{slice_eq-Decides}
use Rattle.rs_attrs.proofs.SamePatterns.{large_decides}
use Rattle.rs_attrs.proofs.stripping.is_same_large_list.Goals as goal

pub returns : goal.returns
returns c = (slice_eq-Decides large_decides c.args.some.now c.args.other.now c.eq.result c.eq.ensures).0
