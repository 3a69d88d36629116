use Rattle.rs_core.proofs.Session.Conversed.{sends_none_longer}
use Rattle.rs_core.proofs.laws.no_message_is_too_long.Goals as goal

pub returns : goal.returns
returns c = sends_none_longer
