use Rattle.rs_trace.proofs.Serving.{serve}
use Rattle.rs_trace.proofs.laws.drained_clients_have_what_is_due.Goals as goal

pub returns : goal.returns
returns c = serve
