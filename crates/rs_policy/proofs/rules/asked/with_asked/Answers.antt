use Rattle.std.proofs.Common.{subst}
use Rattle.rs_attrs.specs.Tagged.{AsksFor, AsksForLarge}
use Rattle.rs_policy.proofs.Judging.Unasked.{asks_community, asks_large}
use Rattle.rs_policy.proofs.rules.asked.with_asked.Goals as goal

pub returns-in-Some-clause-passed_over : goal.returns-in-Some-clause-passed_over
returns-in-Some-clause-passed_over c = asks_community c.and.result c.args.to_as c.args.rule.now c.in-Some.test c.in-Some.is (subst (AsksFor c.and.result) c.pattern_for.ensures c.and.ensures.asked)

pub returns-clause-passed_over : goal.returns-clause-passed_over
returns-clause-passed_over c = asks_large c.and_large.result c.args.to_as c.args.rule.now c.in_ok-test.test c.in_ok-test.was (subst (AsksForLarge c.and_large.result) c.pattern_for-2.ensures c.and_large.ensures.asked)
