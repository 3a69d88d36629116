-- The octets on their way to a socket.
use Rattle.std.specs.Prelude.{◌≡◌, ◌≤◌, ◌<◌, [], length}
use Rattle.std.specs.Vec.{vec_capacity}
use Rattle.rs_live.specs.declared.outbox.Outbox.TheInside.{Inside}

-- octets that were written lie before those that wait, and none lie there where none wait; room was made at the start, and some is taken of what is offered
pub record IsBox (o : Inside) : Type 0 where
  pub written : o.written ≤ length o.octets.items
  pub empty : o.written ≡ length o.octets.items → o.octets.items ≡ []
  pub room : 16384 < vec_capacity o.octets
  pub most : o.most ≤ 16384
  pub some : 0 < o.most
