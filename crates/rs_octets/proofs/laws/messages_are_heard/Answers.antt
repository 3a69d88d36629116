use Rattle.rs_octets.proofs.Cut.{alone, heard_alone}
use Rattle.rs_octets.proofs.Pieces.{heard_one_by_one}
use Rattle.rs_octets.proofs.laws.messages_are_heard.Goals as goal

pub returns-clause-alone : goal.returns-clause-alone
returns-clause-alone c = λ a m is. (heard_alone a m is, (alone a m is).0, (alone a m is).1)

pub returns-clause-one_by_one : goal.returns-clause-one_by_one
returns-clause-one_by_one c = heard_one_by_one
