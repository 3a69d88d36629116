use Rattle.rs_update.proofs.Reasons.{name_their_faults}
use Rattle.rs_update.proofs.laws.updates_name_their_faults.Goals as goal

pub returns : goal.returns
returns c = name_their_faults
