use Rattle.rs_octets.proofs.Cut.{cuts_of, cuts_only}
use Rattle.rs_octets.proofs.laws.octets_are_cut_in_one_way.Goals as goal

pub returns-clause-cut : goal.returns-clause-cut
returns-clause-cut c = cuts_of

pub returns-clause-only : goal.returns-clause-only
returns-clause-only c = cuts_only
