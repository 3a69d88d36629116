use Rattle.rs_core.proofs.Headline.{have_what_is_due}
use Rattle.rs_core.proofs.laws.drained_clients_have_what_is_due.Goals as goal

pub returns : goal.returns
returns g c = have_what_is_due g.L.Link.happens
