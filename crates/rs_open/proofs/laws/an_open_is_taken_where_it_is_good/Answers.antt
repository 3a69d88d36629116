use Rattle.rs_open.proofs.GoodOpens.{taken}
use Rattle.rs_open.proofs.laws.an_open_is_taken_where_it_is_good.Goals as goal

pub returns : goal.returns
returns c = taken
