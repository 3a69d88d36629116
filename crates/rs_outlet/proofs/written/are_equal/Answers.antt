use Rattle.std.proofs.Common.{◌∙◌, sym}
use Rattle.rs_attrs.specs.ComparisonLaws.{attributes_decides}
use Rattle.rs_outlet.proofs.written.are_equal.Goals as goal

pub returns : goal.returns
returns c = λ same. (attributes_decides c.args.some.now c.args.others.now).0 (sym c.eq.ensures ∙ same)
