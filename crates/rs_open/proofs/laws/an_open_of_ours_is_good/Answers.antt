use Rattle.rs_open.proofs.Heard.{heard}
use Rattle.rs_open.proofs.laws.an_open_of_ours_is_good.Goals as goal

pub returns : goal.returns
returns c = heard
