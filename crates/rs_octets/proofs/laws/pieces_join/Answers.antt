use Rattle.rs_octets.proofs.Cut.{pieces_join}
use Rattle.rs_octets.proofs.laws.pieces_join.Goals as goal

pub returns : goal.returns
returns c = pieces_join
