use Rattle.rs_octets.proofs.Fields.{prefixes_read_back}
use Rattle.rs_octets.proofs.laws.prefixes_read_back.Goals as goal

pub returns : goal.returns
returns c = prefixes_read_back
