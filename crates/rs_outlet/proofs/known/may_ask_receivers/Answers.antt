use Rattle.std.proofs.Common.{ℕ, List, map, sym, subst}
use Rattle.std.specs.Arc.{arc_value}
use Rattle.rs_attrs.specs.Meaning.{Attribute}
use Rattle.rs_policy.specs.Alike.{ReceiversAreAlike}
use Rattle.rs_outlet.specs.Decided.HeldBy.{held_by}
use Rattle.rs_outlet.specs.Decided.Precedents.{AreAlikeForAll}
use Rattle.rs_outlet.proofs.Decided.Precedents.{alike_with}
use Rattle.rs_outlet.proofs.known.may_ask_receivers.Goals as goal

pub loop-holder-preserved : goal.loop-holder-preserved
loop-holder-preserved c =
    let t = held_by c.args.sources.now in
    let me = c.args.sources.now.client in
    let h : ℕ × List Attribute = (c.in-Some.holder.client, arc_value c.in-Some.holder.attrs.now) in
    let here : ReceiversAreAlike t.settings me h.1 = c.may_ask.ensures c.if-may_ask.false in
    λ rest. c.loop-holder.invariant
    (subst (λ hs. AreAlikeForAll t me (map (λ (g : (ℕ × List Attribute) × ℕ). g.0) hs)) (sym c.in-Some.ensures.steps)
    (alike_with t me h (map (λ (g : (ℕ × List Attribute) × ℕ). g.0) c.next.new.self) here rest))
