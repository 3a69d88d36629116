use Rattle.std.proofs.Common.{arith, sym, ◌∙◌}
use Rattle.rs_decision.proofs.Compared.{first_by_new, first_by_old}
use Rattle.rs_decision.proofs.choice.first.Goals as goal
use Rattle.rs_decision.proofs.choice.first.Goals.{then-precedes, else-precedes}

pub loop-i-preserved : goal.loop-i-preserved
loop-i-preserved c = elim c.if-precedes.branch [
  | then-precedes w ↦ record {
    within = omega arith;
    first = first_by_new c.args.ranks.now c.loop-i.first c.loop-i.i c.if-precedes.first w.first-is c.loop-i.invariant.first (sym c.precedes.ensures ∙ w.if-precedes.true);
  }
  | else-precedes w ↦ record {
    within = omega arith;
    first = first_by_old c.args.ranks.now c.loop-i.first c.loop-i.i c.if-precedes.first w.first-is c.loop-i.invariant.first (sym c.precedes.ensures ∙ w.if-precedes.false);
  }
]
