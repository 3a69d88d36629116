use Rattle.rs_update.proofs.OneEffect.{mean_tables, mean_one_table}
use Rattle.rs_update.proofs.laws.bodies_mean_one_table.Goals as goal

pub returns-clause-there_is : goal.returns-clause-there_is
returns-clause-there_is c = mean_tables

pub returns-clause-no_other : goal.returns-clause-no_other
returns-clause-no_other c = mean_one_table
