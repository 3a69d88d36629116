use Rattle.std.proofs.Common.{ap, sym, ◌∙◌}
use Rattle.rs_outlet.specs.Decided.HeldBy.{held_by}
use Rattle.rs_outlet.specs.Decided.News.{seen}
use Rattle.rs_outlet.specs.declared.known.Known.{Known}
use Rattle.rs_outlet.proofs.Decided.Precedents.{same_here}
use Rattle.rs_outlet.proofs.known.Known.find.Goals as goal

pub returns-in-None-clause-due : goal.returns-in-None-clause-due
returns-in-None-clause-due c = λ speech known.
    let s = c.args.sources.now in
    same_here (held_by s) s.ins.now known.other s.client speech (seen c.in_ok-change.change.now) (known.same (sym (ap (λ (k : Known). k.asked) c.listed.ensures.rest) ∙ c.in-None.is)) (c.in_ok-change.ensures.due (held_by s) s.ins.now known.other speech known.listed)

pub returns-in-Some-clause-due : goal.returns-in-Some-clause-due
returns-in-Some-clause-due c = λ speech known.
    let s = c.args.sources.now in
    let asked = c.in-Some.asked in
    let is = sym (ap (λ (k : Known). k.asked) c.listed.ensures.rest) ∙ c.in-Some.is in
    c.serves_at.ensures c.if-serves_at.true known.other speech (seen c.in_ok-change.change.now) (known.first asked is) (known.next asked is) c.in_ok-change.ensures.number
    (c.in_ok-change.ensures.due (held_by s) s.ins.now known.other speech known.listed)
