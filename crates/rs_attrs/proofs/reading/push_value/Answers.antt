use Rattle.std.proofs.Common.{subst}
use Rattle.rs_attrs.specs.declared.mode.Mode.{Mode}
use Rattle.rs_attrs.specs.Walking.{AreKept}
use Rattle.rs_attrs.proofs.reading.push_value.Goals as goal

pub push_value_by_two-requires-clause-kept : goal.push_value_by_two-requires-clause-kept
push_value_by_two-requires-clause-kept c =
    let P : Mode → Type 0 = λ mode. AreKept mode c.args.kept.now in
    subst P c.in-Two.is c.requires.kept
