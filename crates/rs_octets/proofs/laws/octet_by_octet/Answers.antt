use Rattle.rs_octets.proofs.Cut.{octet_by_octet}
use Rattle.rs_octets.proofs.laws.octet_by_octet.Goals as goal

pub returns : goal.returns
returns c = octet_by_octet
