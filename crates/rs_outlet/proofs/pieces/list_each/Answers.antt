use Rattle.std.proofs.Common.{◌∙◌, ◌++◌, ◌∷◌, [], sym, ap}
use Rattle.std.specs.Vec.Iter.{into_iter_items}
use Rattle.std.proofs.lemmas.List.{append_assoc}
use Rattle.rs_outlet.specs.declared.pieces.Piece.TheVariants as piece
use Rattle.rs_outlet.specs.Decided.Plans.{news_in}
use Rattle.rs_outlet.proofs.Pending.Pieces.{news_push}
use Rattle.rs_outlet.proofs.pieces.list_each.Goals as goal

pub loop-one-preserved : goal.loop-one-preserved
loop-one-preserved c =
    let rest = into_iter_items c.next.new.self in
    let one = c.in-Some.one in
    let ps = c.loop-one.pieces.items in
    ap (λ qs. news_in qs ++ rest) c.in_ok-push.ensures.items
    ∙ ap (λ ns. ns ++ rest) (news_push ps (piece.One one))
    ∙ append_assoc (news_in ps) (one ∷ []) rest
    ∙ ap (λ ns. news_in ps ++ ns) (sym c.in-Some.ensures.steps.0)
    ∙ c.loop-one.invariant
