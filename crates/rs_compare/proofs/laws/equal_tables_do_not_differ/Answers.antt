use Rattle.rs_compare.proofs.Merged.{equal_alone}
use Rattle.rs_compare.proofs.laws.equal_tables_do_not_differ.Goals as goal

pub returns : goal.returns
returns c = equal_alone
