use Rattle.rs_outlet.specs.Decided.HeldBy.{held_by}
use Rattle.rs_outlet.proofs.Answered.{if_some_at}
use Rattle.rs_outlet.proofs.Decided.Precedents.{news_made}
use Rattle.rs_outlet.proofs.serving.news_at.Goals as goal

pub returns-clause-news : goal.returns-clause-news
returns-clause-news c =
    let s = c.args.sources.now in
    let t = held_by s in
    news_made t s.ins.now s.client c.args.speech c.args.number c.in-Some.change.now c.of.result
    (if_some_at _ c.find.result c.in-Some.change c.in-Some.is (c.find.ensures.due c.args.speech c.requires.known))
    (if_some_at _ c.find.result c.in-Some.change c.in-Some.is c.find.ensures.number)
    (c.is_absent.ensures c.if-is_absent.true) c.of.ensures.same c.of.ensures.none
