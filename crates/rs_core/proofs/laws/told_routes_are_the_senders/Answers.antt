use Rattle.rs_core.proofs.Told.Senders.{told_routes_are_the_senders}
use Rattle.rs_core.proofs.laws.told_routes_are_the_senders.Goals as goal

pub returns : goal.returns
returns c = told_routes_are_the_senders
