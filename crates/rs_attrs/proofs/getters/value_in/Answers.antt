use Rattle.std.proofs.Common.{sym}
use Rattle.rs_attrs.specs.Held.{attributes_in}
use Rattle.rs_attrs.specs.Getters.{attribute_at}
use Rattle.rs_attrs.proofs.WellFormed.{well_formed_as}
use Rattle.rs_attrs.proofs.getters.value_in.Goals as goal

pub returns-clause-form : goal.returns-clause-form
returns-clause-form c = well_formed_as (attributes_in c.args.heads.now c.args.values.now) c.args.kind (attribute_at c.in_ok-find.field-0) c.requires.legal (sym c.in_ok-find.ensures)
