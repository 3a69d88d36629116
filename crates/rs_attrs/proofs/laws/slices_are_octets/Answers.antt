use Rattle.std.proofs.Common.{arith}
use Rattle.rs_attrs.proofs.Fields.Legal.{are_octets}
use Rattle.rs_attrs.proofs.laws.slices_are_octets.Goals as goal

pub returns : goal.returns
returns c = are_octets c.args.octets.now (λ i. omega (arith, c.type_inv.octets i))
