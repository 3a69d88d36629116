use Rattle.rs_octets.proofs.Fronting.{message_in_front, fault_in_front, waits, still_waits}
use Rattle.rs_octets.proofs.laws.a_front_is_heard.Goals as goal

pub returns-clause-message : goal.returns-clause-message
returns-clause-message c = message_in_front

pub returns-clause-fault : goal.returns-clause-fault
returns-clause-fault c = fault_in_front

pub returns-clause-waits : goal.returns-clause-waits
returns-clause-waits c = waits

pub returns-clause-still : goal.returns-clause-still
returns-clause-still c = still_waits
