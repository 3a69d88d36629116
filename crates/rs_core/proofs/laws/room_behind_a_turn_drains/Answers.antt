use Rattle.rs_core.proofs.Owed.Draining.{room_drains}
use Rattle.rs_core.proofs.laws.room_behind_a_turn_drains.Goals as goal

pub returns : goal.returns
returns c = room_drains
