use Rattle.std.proofs.Common.{arith, refl}
use Rattle.rs_attrs.proofs.WellFormed.{one_octet}
use Rattle.rs_attrs.proofs.attrs.Attrs.origin.Goals as goal

pub bounds-value-0 : goal.bounds-value-0
bounds-value-0 c = let one = one_octet c.in_ok-value.value.now (c.in_ok-value.ensures.form.form _ refl refl) in omega arith
