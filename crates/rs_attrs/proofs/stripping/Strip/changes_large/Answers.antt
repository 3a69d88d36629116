use Rattle.std.proofs.Common.{sym, rules, tests}
use Rattle.std.proofs.lemmas.Iterator.Consumers.{YieldsList-from_first}
use Rattle.std.proofs.lemmas.Iterator.Search.{any_from_yields_List}
use Rattle.rs_octets.proofs.Members.{any_false}
use Rattle.rs_attrs.specs.Getters.{large_communities_of}
use Rattle.rs_attrs.specs.Stripping.{is_stripped_large, taken_by}
use Rattle.rs_attrs.proofs.stripping.Strip.changes_large.Goals as goal

pub returns-then-takes_none_large : goal.returns-then-takes_none_large
returns-then-takes_none_large c = sym (any_false _ (large_communities_of c.args.attrs.now) (λ n has. c.takes_none_large.ensures c.if-takes_none_large.true n))

pub returns : goal.returns
returns c =
    any_from_yields_List (is_stripped_large (taken_by c.args.self.now)) _ _ _ c.any.ensures.ran
    (YieldsList-from_first (λ n. n) (λ numbers. numbers) (large_communities_of c.args.attrs.now) c.large_communities.ensures) (λ x b q k. search (rules, tests))
