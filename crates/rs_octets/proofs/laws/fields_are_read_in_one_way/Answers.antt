use Rattle.rs_octets.proofs.Fields.{reads_of, reads_only}
use Rattle.rs_octets.proofs.laws.fields_are_read_in_one_way.Goals as goal

pub returns-clause-read : goal.returns-clause-read
returns-clause-read c = reads_of

pub returns-clause-only : goal.returns-clause-only
returns-clause-only c = reads_only
