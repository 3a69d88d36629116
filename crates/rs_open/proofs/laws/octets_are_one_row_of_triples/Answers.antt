use Rattle.rs_open.proofs.Splitting.{row_is, row_is_only}
use Rattle.rs_open.proofs.laws.octets_are_one_row_of_triples.Goals as goal

pub returns-clause-there_is : goal.returns-clause-there_is
returns-clause-there_is c = row_is

pub returns-clause-no_other : goal.returns-clause-no_other
returns-clause-no_other c = row_is_only
