use Rattle.rs_trace.proofs.Serving.{drain}
use Rattle.rs_trace.proofs.laws.room_behind_a_turn_drains.Goals as goal

pub returns : goal.returns
returns c = drain
