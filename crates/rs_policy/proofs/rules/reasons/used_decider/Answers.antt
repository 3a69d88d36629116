use Rattle.std.proofs.Common.{◌+◌, ◌∙◌, sym, ap, option_map, arith}
use Rattle.rs_policy.specs.Judged.{offered}
use Rattle.rs_policy.specs.Reasons.{Placed}
use Rattle.rs_policy.specs.Verdicts.{matches}
use Rattle.rs_policy.specs.declared.rules.Rule.{Rule}
use Rattle.rs_policy.proofs.Judging.Placed.{used_here, used_further, used_end}
use Rattle.rs_policy.proofs.rules.reasons.used_decider.Goals as goal

pub returns-then-matches : goal.returns-then-matches
returns-then-matches c =
    let test = λ (rule : Rule). matches c.args.lists.now rule (offered c.args.offer.now) in
    ap (option_map (λ (p : Placed). p.at))
    (sym (used_here test c.args.place c.args.number (c.loop-index.index + 1) c.args.used.now c.loop-index.index c.index-used-index.result (omega arith) c.index-used-index.is (sym c.matches.ensures ∙ c.if-matches.true))
    ∙ c.loop-index.invariant)

pub loop-index-preserved : goal.loop-index-preserved
loop-index-preserved c =
    let test = λ (rule : Rule). matches c.args.lists.now rule (offered c.args.offer.now) in
    sym (used_further test c.args.place c.args.number (c.loop-index.index + 1) c.args.used.now c.loop-index.index c.index-used-index.result (omega arith) c.index-used-index.is (sym c.matches.ensures ∙ c.if-matches.false))
    ∙ c.loop-index.invariant

pub returns : goal.returns
returns c =
    let test = λ (rule : Rule). matches c.args.lists.now rule (offered c.args.offer.now) in
    ap (option_map (λ (p : Placed). p.at))
    (sym (used_end test c.args.place c.args.number (c.loop-index.index + 1) c.args.used.now c.loop-index.index (omega arith)) ∙ c.loop-index.invariant)
