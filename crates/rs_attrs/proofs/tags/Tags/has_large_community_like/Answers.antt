use Rattle.std.proofs.Common.{rules, tests}
use Rattle.std.proofs.lemmas.Iterator.Consumers.{YieldsList-from_first}
use Rattle.std.proofs.lemmas.Iterator.Search.{any_from_yields_List}
use Rattle.rs_attrs.specs.Getters.{large_tagged}
use Rattle.rs_attrs.specs.Patterns.{is_like_large}
use Rattle.rs_attrs.proofs.tags.Tags.has_large_community_like.Goals as goal

pub returns : goal.returns
returns c =
    any_from_yields_List (is_like_large c.args.pattern.now) _ _ _ c.any.ensures.ran
    (YieldsList-from_first (λ community. community) (λ communities. communities) (large_tagged c.args.self.now) c.of.ensures.communities) (λ x b q k. search (rules, tests))
