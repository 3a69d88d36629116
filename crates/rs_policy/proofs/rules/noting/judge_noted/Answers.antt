use Rattle.std.proofs.Common.{◌≡◌, ◌∙◌, [], sym, ap}
use Rattle.rs_policy.specs.Configuration.{policy_of}
use Rattle.rs_policy.specs.Verdicts.{joined, passing_by_default}
use Rattle.rs_policy.proofs.Judging.Noted.{drops, plain_noted}
use Rattle.rs_policy.proofs.Judging.WithoutRules.{plainly_through}
use Rattle.rs_policy.proofs.rules.noting.judge_noted.Goals as goal

pub returns-in-None : goal.returns-in-None
returns-in-None c =
    drops c.args.config.now c.args.from c.args.to c.args.prefix.now c.args.attrs.now (c.in-None.ensures c.args.to c.args.prefix.now c.args.attrs.now c.requires.noted)

pub returns-then-is_empty : goal.returns-then-is_empty
returns-then-is_empty c =
    let s = c.args.config.now in
    let is : c.args.note ≡ 1 = c.if-note-eq-PLAINLY.true in
    let exports : (policy_of s c.args.to).export ≡ [] = sym c.export.ensures ∙ c.is_empty.ensures c.if-is_empty.true in
    c.judge_without_rules.ensures ∙ ap (λ default. joined (passing_by_default default) (passing_by_default default)) c.default.ensures
    ∙ plainly_through s c.args.from c.args.to c.args.prefix.now c.args.attrs.now (plain_noted s c.args.from c.args.to c.args.prefix.now c.args.attrs.now c.is_read.ensures c.requires.from (sym is ∙ c.requires.noted)) exports
