use Rattle.std.proofs.lemmas.List.Elements.{recursion_from_All}
use Rattle.std.proofs.Common.{map, ap, sym, ◌∙◌}
use Rattle.rs_outlet.specs.declared.known.Known.{Known}
use Rattle.rs_outlet.specs.declared.news.News.{News}
use Rattle.rs_outlet.specs.Decided.HeldBy.{held_by}
use Rattle.rs_outlet.specs.Decided.News.{change_of}
use Rattle.rs_outlet.specs.Decided.Plans.{news_within}
use Rattle.rs_outlet.specs.Decided.Precedents.{ServesAt}
use Rattle.rs_outlet.proofs.Decided.Precedents.{all_plain_here, all_same_here}
use Rattle.rs_outlet.proofs.known.Known.find_whole.Goals as goal

pub returns-in-None-clause-due : goal.returns-in-None-clause-due
returns-in-None-clause-due c = λ speech known.
    let s = c.args.sources.now in
    all_same_here (held_by s) s.ins.now known.other s.client speech (map change_of (news_within c.in_ok-whole.whole.now)) (known.same (sym (ap (λ (k : Known). k.asked) c.listed_whole.ensures.rest) ∙ c.in-None.is))
    (c.in_ok-whole.ensures.due (held_by s) s.ins.now known.other speech known.listed)

pub returns-in-Some-clause-due : goal.returns-in-Some-clause-due
returns-in-Some-clause-due c = λ speech known.
    let s = c.args.sources.now in
    let asked = c.in-Some.asked in
    let is = sym (ap (λ (k : Known). k.asked) c.listed_whole.ensures.rest) ∙ c.in-Some.is in
    let P = λ (n : News). ServesAt (held_by s) s.ins.now s.client asked n.number in
    let ns = news_within c.in_ok-whole.whole.now in
    all_plain_here (held_by s) s.ins.now known.other s.client speech asked ns (known.first asked is) (known.next asked is)
    (recursion_from_All P ns (c.serves_whole.ensures c.if-serves_whole.true))
    (c.in_ok-whole.ensures.due (held_by s) s.ins.now known.other speech known.listed)
