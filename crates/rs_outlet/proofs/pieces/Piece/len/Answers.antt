use Rattle.std.proofs.Common.{◌∙◌, ap, length, sym}
use Rattle.rs_outlet.specs.Decided.Plans.{news_of}
use Rattle.rs_outlet.proofs.Pending.Pieces.{sixteen}
use Rattle.rs_outlet.proofs.pieces.Piece.len.Goals as goal

pub returns-in-Block : goal.returns-in-Block
returns-in-Block c = sym (ap (λ p. length (news_of p)) c.in-Block.is ∙ sixteen c.in-Block.field-0)
