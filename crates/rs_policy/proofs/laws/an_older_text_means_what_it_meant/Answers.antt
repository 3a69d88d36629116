use Rattle.rs_policy.proofs.Older.Keys.{answers_as_before}
use Rattle.rs_policy.proofs.laws.an_older_text_means_what_it_meant.Goals as goal

pub returns : goal.returns
returns c = answers_as_before
