use Rattle.std.proofs.Common.{All, sym, subst}
use Rattle.rs_outlet.specs.Decided.Precedents.{IsPlainForBoth}
use Rattle.rs_outlet.proofs.Decided.Precedents.{plain_with}
use Rattle.rs_outlet.proofs.known.Asked.is_lacked_by_all.Goals as goal

pub loop-holder-preserved : goal.loop-holder-preserved
loop-holder-preserved c = λ rest.
    c.loop-holder.invariant
    (subst (All (IsPlainForBoth c.args.self)) (sym c.in-Some.ensures.steps)
    (plain_with c.args.self _ c.next.new.self (c.is_lacked_by.ensures c.if-not-is_lacked_by.false) rest))
