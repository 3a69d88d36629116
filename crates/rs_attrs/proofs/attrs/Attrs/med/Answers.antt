use Rattle.std.proofs.Common.{length, eqb-true, refl}
use Rattle.rs_attrs.proofs.attrs.Attrs.med.Goals as goal

pub number-requires : goal.number-requires
number-requires c = eqb-true (length c.in_ok-value.field-0.now) 4 (c.in_ok-value.ensures.form.form _ refl refl)
