use Rattle.std.proofs.Common.{inr}
use Rattle.rs_live.proofs.serve.is_done.Goals as goal

pub returns-in_default : goal.returns-in_default
returns-in_default g c e operations h = inr (c.is_at_end.ensures e operations h)
