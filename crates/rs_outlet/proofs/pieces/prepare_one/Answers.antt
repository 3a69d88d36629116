use Rattle.std.proofs.Common.{length, map, subst, sym}
use Rattle.rs_outlet.specs.declared.pieces.Piece.{Piece}
use Rattle.rs_outlet.specs.Decided.News.{change_of}
use Rattle.rs_outlet.specs.Decided.Plans.{HasRows, news_of}
use Rattle.rs_outlet.specs.Inside.{AreBelow}
use Rattle.rs_outlet.proofs.Pending.Pieces.{block_below}
use Rattle.rs_outlet.proofs.pieces.prepare_one.Goals as goal

pub returns-in-Block-clause-prepared : goal.returns-in-Block-clause-prepared
returns-in-Block-clause-prepared c =
    let most = length c.args.rows.now.rows.items in
    subst (HasRows c.args.rows.now.rows) (sym c.in-Block.is)
    (block_below c.in-Block.field-0 most (subst (λ (p : Piece). AreBelow (map change_of (news_of p)) most) c.in-Block.is c.requires))
