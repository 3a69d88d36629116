use Rattle.std.proofs.Common.{refl}
use Rattle.rs_replay.proofs.connection.Connection.new.Goals as goal

pub returns : goal.returns
returns c = λ mode. (((refl, tt), c.new-2.ensures mode), λ read. c.new.ensures.items)
