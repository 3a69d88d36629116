use Rattle.std.proofs.Common.{◌∙◌, ◌++◌, ap, map, sym}
use Rattle.std.proofs.lemmas.List.{map-append}
use Rattle.rs_outlet.specs.declared.pieces.Piece.TheVariants as piece
use Rattle.rs_outlet.specs.Decided.News.{change_of, seen}
use Rattle.rs_outlet.specs.Decided.Plans.{changes_in, news_in, news_within}
use Rattle.rs_outlet.proofs.Pending.Pieces.{news_push}
use Rattle.rs_outlet.proofs.pieces.list_news.Goals as goal

pub returns-in_default : goal.returns-in_default
returns-in_default c =
    ap (λ ns. map seen (map change_of ns)) c.in_ok-list_each.ensures
    ∙ ap (map seen) (map-append change_of (news_in c.args.pieces.now.items) c.args.news.items)

pub returns : goal.returns
returns c =
    let ps = c.args.pieces.now.items in
    let w = c.in_ok-whole.whole in
    ap (λ xs. map seen (changes_in xs)) c.in_ok-push.ensures.items
    ∙ ap (λ ns. map seen (map change_of ns)) (news_push ps (piece.Block w))
    ∙ ap (map seen) (map-append change_of (news_in ps) (news_within w))
    ∙ map-append seen (changes_in ps) (map change_of (news_within w))
    ∙ ap (λ it. map seen (changes_in ps) ++ it) (c.in_ok-whole.ensures ∙ ap (λ ns. map seen (map change_of ns)) c.deref-2.ensures.value)
    ∙ sym (map-append seen (changes_in ps) (map change_of c.args.news.items))
