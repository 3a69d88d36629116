use Rattle.rs_octets.proofs.Pieces.{heard_grows, newly_is, nothing_behind_a_fault, newly_joined}
use Rattle.rs_octets.proofs.laws.later_octets_are_heard_behind.Goals as goal

pub returns-clause-stays : goal.returns-clause-stays
returns-clause-stays c = heard_grows

pub returns-clause-new : goal.returns-clause-new
returns-clause-new c = newly_is

pub returns-clause-fault : goal.returns-clause-fault
returns-clause-fault c = nothing_behind_a_fault

pub returns-clause-pieces : goal.returns-clause-pieces
returns-clause-pieces c = newly_joined
