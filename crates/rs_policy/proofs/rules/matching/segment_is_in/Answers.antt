use Rattle.std.proofs.Common.{rules, tests}
use Rattle.std.proofs.lemmas.Iterator.Consumers.{YieldsList-from_first}
use Rattle.std.proofs.lemmas.Iterator.Search.{any_from_yields_List}
use Rattle.rs_policy.specs.Configuration.{list_at}
use Rattle.rs_policy.specs.Verdicts.{has_as}
use Rattle.rs_policy.proofs.rules.matching.segment_is_in.Goals as goal

pub returns : goal.returns
returns c =
    any_from_yields_List (has_as (list_at c.args.lists.now c.args.list)) _ _ _ c.any.ensures.ran
    (YieldsList-from_first (λ n. n) (λ numbers. numbers) c.args.segment.now.numbers c.numbers.ensures) (λ x b q k. search (rules, tests))
