use Rattle.std.proofs.Common.{rules, tests}
use Rattle.std.specs.List.{list_any}
use Rattle.std.proofs.lemmas.Iterator.Consumers.{YieldsList-from_first}
use Rattle.std.proofs.lemmas.Iterator.Search.{any_from_yields_List}
use Rattle.rs_attrs.specs.Getters.{path_of}
use Rattle.rs_attrs.specs.Paths.{Segment}
use Rattle.rs_policy.specs.Configuration.{list_at}
use Rattle.rs_policy.specs.Verdicts.{has_as}
use Rattle.rs_policy.proofs.rules.matching.path_is_in.Goals as goal

pub returns : goal.returns
returns c =
    any_from_yields_List (λ (s : Segment). list_any (has_as (list_at c.args.lists.now c.args.list)) s.numbers) _ _ _ c.any.ensures.ran
    (YieldsList-from_first (λ s. s) (λ segments. segments) (path_of c.args.offer.now.attrs.now) c.path.ensures.segments) (λ x b q k. search (rules, tests))
