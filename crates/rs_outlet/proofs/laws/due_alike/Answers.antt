use Rattle.rs_outlet.proofs.Decided.OthersAlone.{due_is_alike}
use Rattle.rs_outlet.proofs.laws.due_alike.Goals as goal

pub returns : goal.returns
returns c = due_is_alike
