use Rattle.std.proofs.Common.{◌≡◌, map, take, sym, subst}
use Rattle.rs_outlet.specs.declared.filled.Whole.{Whole}
use Rattle.rs_outlet.specs.Decided.News.{change_of, seen}
use Rattle.rs_outlet.specs.Decided.Plans.{news_within}
use Rattle.rs_outlet.specs.Decided.Precedents.{AreDueAlike, IsDueAlike}
use Rattle.rs_outlet.proofs.Answered.{if_made, if_some_at}
use Rattle.rs_outlet.proofs.Decided.Precedents.{all_seen, due_first}
use Rattle.rs_outlet.proofs.precedent.first_whole.Goals as goal

pub returns-clause-due : goal.returns-clause-due
returns-clause-due c = λ t ins client speech known due.
    subst (λ ns. AreDueAlike t ins client speech (map change_of ns)) (sym c.in_ok-copy.ensures)
    (if_some_at _ c.find_alike.result c.in-Some.whole c.in-Some.is (c.find_alike.ensures.due t ins client speech known))

pub returns-2-clause-due : goal.returns-2-clause-due
returns-2-clause-due c = λ t ins client speech known due.
    let cs = c.args.changes.now in
    if_made c.fill_first.result (λ (w : Whole). map seen (map change_of (news_within w)) ≡ map seen (take 16 cs)) (λ (w : Whole). AreDueAlike t ins client speech (map change_of (news_within w)))
    (λ w same. all_seen (IsDueAlike t ins client speech) (take 16 cs) (map change_of (news_within w)) same (due_first t ins client speech 16 cs due))
    c.fill_first.ensures
