use Rattle.std.proofs.Common.{◌≡◌, ◌∙◌, [], sym, ap}
use Rattle.rs_policy.specs.Configuration.{policy_of}
use Rattle.rs_policy.specs.Verdicts.{joined, passing_by_default}
use Rattle.rs_policy.proofs.Judging.WithoutRules.{default_decides}
use Rattle.rs_policy.proofs.rules.verdict.judge.Goals as goal

pub returns-then-is_empty-2 : goal.returns-then-is_empty-2
returns-then-is_empty-2 c =
    let s = c.args.config.now in
    let imports : (policy_of s c.args.from).import ≡ [] = sym c.import-imports.ensures ∙ c.is_empty.ensures c.if-is_empty.true in
    let exports : (policy_of s c.args.to).export ≡ [] = sym c.export-exports.ensures ∙ c.is_empty-then-is_empty.ensures c.if-is_empty-2.true in
    c.judge_without_rules.ensures ∙ ap (λ default. joined (passing_by_default default) (passing_by_default default)) c.default-default.ensures
    ∙ default_decides s c.args.from c.args.to c.args.prefix.now c.args.attrs.now imports exports
