use Rattle.rs_policy.proofs.Accepted.Imports.{asks_no_receiver}
use Rattle.rs_policy.proofs.laws.an_import_list_asks_no_receiver.Goals as goal

pub returns : goal.returns
returns c = asks_no_receiver
