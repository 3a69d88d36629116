use Rattle.std.proofs.lemmas.Slice.Eq.{slice_eq-Decides}
use Rattle.rs_attrs.proofs.SamePatterns.{pattern_decides}
use Rattle.rs_attrs.proofs.stripping.is_same_list.Goals as goal

pub returns : goal.returns
returns c = (slice_eq-Decides pattern_decides c.args.some.now c.args.other.now c.eq.result c.eq.ensures).0
