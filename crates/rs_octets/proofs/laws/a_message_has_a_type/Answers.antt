use Rattle.rs_octets.proofs.GoodHeaders.{has_type, of_type_is}
use Rattle.rs_octets.proofs.laws.a_message_has_a_type.Goals as goal

pub returns-clause-has : goal.returns-clause-has
returns-clause-has c = has_type

pub returns-clause-is : goal.returns-clause-is
returns-clause-is c = of_type_is
