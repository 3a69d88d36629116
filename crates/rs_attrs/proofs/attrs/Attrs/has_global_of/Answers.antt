use Rattle.std.proofs.Common.{rules, tests}
use Rattle.std.proofs.lemmas.Iterator.Consumers.{YieldsList-from_first}
use Rattle.std.proofs.lemmas.Iterator.Search.{any_from_yields_List}
use Rattle.rs_attrs.specs.Getters.{large_communities_of}
use Rattle.rs_attrs.specs.Tagged.{has_first}
use Rattle.rs_attrs.specs.declared.patterns.LargeCommunity.{LargeCommunity}
use Rattle.rs_attrs.proofs.attrs.Attrs.has_global_of.Goals as goal

pub returns : goal.returns
returns c =
    any_from_yields_List (λ (x : LargeCommunity). has_first c.args.globals.now x.global) _ _ _ c.any.ensures.ran
    (YieldsList-from_first (λ community. community) (λ communities. communities) (large_communities_of c.args.self.now) c.large_communities.ensures) (λ x b q k. search (rules, tests))
