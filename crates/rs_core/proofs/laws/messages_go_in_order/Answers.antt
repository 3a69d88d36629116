use Rattle.rs_core.proofs.Session.Conversed.{sends_in_order}
use Rattle.rs_core.proofs.laws.messages_go_in_order.Goals as goal

pub returns : goal.returns
returns c = sends_in_order
