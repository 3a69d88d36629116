use Rattle.rs_core.proofs.Told.InTurn.{tells_in_turn}
use Rattle.rs_core.proofs.laws.clients_are_told_in_turn.Goals as goal

pub returns : goal.returns
returns c = tells_in_turn
