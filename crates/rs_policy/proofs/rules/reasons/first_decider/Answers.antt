use Rattle.std.proofs.Common.{◌+◌, ◌∙◌, sym, ap, arith}
use Rattle.rs_policy.specs.Judged.{offered}
use Rattle.rs_policy.specs.Reasons.{at_of, decider}
use Rattle.rs_policy.specs.Verdicts.{matches}
use Rattle.rs_policy.specs.declared.rules.Rule.{Rule}
use Rattle.rs_policy.proofs.Judging.Placed.{placed_here, placed_further, placed_end}
use Rattle.rs_policy.proofs.rules.reasons.first_decider.Goals as goal

pub returns-in-Some : goal.returns-in-Some
unfolding decider
returns-in-Some c =
    let test = λ (rule : Rule). matches c.args.lists.now rule (offered c.args.offer.now) in
    sym
    (ap at_of (sym c.loop-index.invariant)
    ∙ placed_here test c.args.shared.now (c.loop-index.index + 1) c.args.items.now c.loop-index.index c.index-items-index.result c.in-Some.decider (omega arith) c.index-items-index.is c.in-Some.ensures)

pub loop-index-preserved : goal.loop-index-preserved
loop-index-preserved c =
    let test = λ (rule : Rule). matches c.args.lists.now rule (offered c.args.offer.now) in
    sym (placed_further test c.args.shared.now (c.loop-index.index + 1) c.args.items.now c.loop-index.index c.index-items-index.result (omega arith) c.index-items-index.is c.in_default.ensures)
    ∙ c.loop-index.invariant

pub returns : goal.returns
unfolding decider
returns c =
    let test = λ (rule : Rule). matches c.args.lists.now rule (offered c.args.offer.now) in
    ap at_of (sym (placed_end test c.args.shared.now (c.loop-index.index + 1) c.args.items.now c.loop-index.index (omega arith)) ∙ c.loop-index.invariant)
