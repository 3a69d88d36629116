use Rattle.rs_policy.proofs.Older.Keys.{means_what_it_meant}
use Rattle.rs_policy.proofs.laws.an_older_rule_means_what_it_meant.Goals as goal

pub returns : goal.returns
returns c = means_what_it_meant
