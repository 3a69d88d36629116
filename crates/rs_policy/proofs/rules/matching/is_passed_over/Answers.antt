use Rattle.std.proofs.Common.{◌∙◌, sym}
use Rattle.rs_policy.specs.Judged.{offered}
use Rattle.rs_policy.specs.Verdicts.{has_community, has_large_community}
use Rattle.rs_policy.proofs.Judging.PassedOver.{out_of_range, without_community, without_large_community}
use Rattle.rs_policy.proofs.Judging.Prefixes.{not_so}
use Rattle.rs_policy.proofs.rules.matching.is_passed_over.Goals as goal

pub returns : goal.returns
returns c _ lists =
    out_of_range lists c.args.rule.now (offered c.args.offer.now) c.in-Some.range c.in-Some.is (sym c.is_in_range.ensures ∙ c.if-not-is_in_range.true)

pub returns-2 : goal.returns-2
returns-2 c _ lists =
    without_community lists c.args.rule.now (offered c.args.offer.now) c.in-Some-community.test c.in-Some-community.is
    (not_so (has_community c.in-Some-community.test (offered c.args.offer.now)) (sym c.lacks_community.ensures ∙ c.if-lacks_community.true))

pub returns-3 : goal.returns-3
returns-3 c _ lists =
    without_large_community lists c.args.rule.now (offered c.args.offer.now) c.in-Some-large_community.test c.in-Some-large_community.is
    (not_so (has_large_community c.in-Some-large_community.test (offered c.args.offer.now)) (sym c.lacks_large_community.ensures ∙ c.if-lacks_large_community.true))
