use Rattle.std.proofs.Common.{◌∙◌, map, subst, sym, ap, ◌*◌}
use Rattle.rs_outlet.specs.Decided.News.{HaveRoutes, change_of, news_from, seen}
use Rattle.rs_outlet.proofs.Pending.Pieces.{full_rows, rise, seen_from}
use Rattle.rs_outlet.proofs.filled.Whole.with.Goals as goal

pub invariant_of-result : goal.invariant_of-result
invariant_of-result c = record {
  full = subst HaveRoutes (sym c.in_ok-block.ensures) (full_rows c.args.news.now);
  numbered = c.requires.most;
}

pub returns : goal.returns
returns c =
    let k = c.args.place * 16 in
    ap (λ rows. map seen (map change_of (news_from k rows))) c.in_ok-block.ensures ∙ seen_from k c.args.news.now (rise k c.args.news.now c.requires.numbers)
