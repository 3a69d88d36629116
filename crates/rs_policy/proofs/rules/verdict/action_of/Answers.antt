use Rattle.std.proofs.Common.{◌∙◌, sym, ap, option_map, arith}
use Rattle.rs_policy.specs.Verdicts.{matches}
use Rattle.rs_policy.specs.Judged.{offered}
use Rattle.rs_policy.specs.declared.rules.Rule.{Rule}
use Rattle.rs_policy.proofs.Judging.Written.{action_by, none_there, some_there, none_left}
use Rattle.rs_policy.proofs.rules.verdict.action_of.Goals as goal

pub returns-in-Some : goal.returns-in-Some
returns-in-Some c =
    let test = λ (rule : Rule). matches c.args.lists.now rule (offered c.args.offer.now) in
    sym
    (ap (action_by test) c.parts.ensures
    ∙ (ap (option_map (λ (rule : Rule). rule.action)) (sym c.loop-item.invariant)
    ∙ some_there test c.parts.result.1.now c.parts.result.0.now c.loop-item.item-index c.item-item.result c.in-Some.action.now (omega arith) c.item-item.is (sym c.in-Some.ensures)))

pub loop-item-preserved : goal.loop-item-preserved
loop-item-preserved c =
    let test = λ (rule : Rule). matches c.args.lists.now rule (offered c.args.offer.now) in
    sym (none_there test c.parts.result.1.now c.parts.result.0.now c.loop-item.item-index c.item-item.result (omega arith) c.item-item.is (sym c.in_default.ensures))
    ∙ c.loop-item.invariant

pub returns : goal.returns
returns c =
    let test = λ (rule : Rule). matches c.args.lists.now rule (offered c.args.offer.now) in
    sym
    (ap (action_by test) c.parts.ensures
    ∙ (ap (option_map (λ (rule : Rule). rule.action)) (sym c.loop-item.invariant)
    ∙ ap (option_map (λ (rule : Rule). rule.action)) (none_left test c.parts.result.1.now c.parts.result.0.now c.loop-item.item-index (omega arith))))
