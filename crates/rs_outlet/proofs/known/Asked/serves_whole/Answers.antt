use Rattle.std.proofs.Common.{◌+◌, ◌*◌, ℕ, arith, subst}
use Rattle.std.proofs.lemmas.List.Elements.{All-from_recursion}
use Rattle.rs_outlet.specs.declared.news.News.{News}
use Rattle.rs_outlet.specs.Decided.HeldBy.{held_by}
use Rattle.rs_outlet.specs.Decided.Plans.{news_within}
use Rattle.rs_outlet.specs.Decided.Precedents.{ServesAt}
use Rattle.rs_outlet.proofs.Pending.Filling.{one_further}
use Rattle.rs_outlet.proofs.Pending.Pieces.{all_rise, rise_within, sixteen}
use Rattle.rs_outlet.proofs.known.Asked.serves_whole.Goals as goal

pub loop-index-preserved : goal.loop-index-preserved
loop-index-preserved c =
    let s = c.args.sources.now in
    let P = λ (m : ℕ). ServesAt (held_by s) s.ins.now s.client c.args.self m in
    one_further (λ j. P (c.args.whole.now.place * 16 + j)) c.loop-index.index c.loop-index.invariant (subst P c.number_at.ensures (c.serves_at.ensures c.if-not-serves_at.false))

pub returns : goal.returns
returns c = λ so.
    let s = c.args.sources.now in
    let P = λ (m : ℕ). ServesAt (held_by s) s.ins.now s.client c.args.self m in
    let w = c.args.whole.now in
    All-from_recursion (λ (n : News). P n.number) (news_within w)
    (all_rise P (w.place * 16) (news_within w) (rise_within w) (λ j less. c.loop-index.invariant j (omega (arith, less, sixteen w, c.loop-index-test.false))))
