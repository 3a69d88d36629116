use Rattle.std.proofs.Common.{ap, arith, length}
use Rattle.rs_outlet.specs.Decided.Plans.{news_of}
use Rattle.rs_outlet.proofs.Pending.Pieces.{sixteen}
use Rattle.rs_outlet.proofs.pieces.put_piece.Goals as goal

pub list_slots-requires : goal.list_slots-requires
list_slots-requires c = omega (arith, c.requires.room, ap (λ p. length (news_of p)) c.in-Block.is, sixteen c.in-Block.whole)
