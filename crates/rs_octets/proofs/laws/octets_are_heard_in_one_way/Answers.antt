use Rattle.rs_octets.proofs.Cut.{hears_of, hears_only}
use Rattle.rs_octets.proofs.laws.octets_are_heard_in_one_way.Goals as goal

pub returns-clause-heard : goal.returns-clause-heard
returns-clause-heard c = hears_of

pub returns-clause-only : goal.returns-clause-only
returns-clause-only c = hears_only
