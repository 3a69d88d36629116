use Rattle.std.proofs.Common.{rules, tests, ◌/◌}
use Rattle.std.proofs.lemmas.Iterator.Consumers.{YieldsList-from_first}
use Rattle.std.proofs.lemmas.Iterator.Search.{any_from_yields_List}
use Rattle.rs_attrs.specs.Getters.{communities_of}
use Rattle.rs_attrs.specs.Tagged.{has_first}
use Rattle.rs_attrs.proofs.attrs.Attrs.has_first_of.Goals as goal

pub returns : goal.returns
returns c =
    any_from_yields_List (λ n. has_first c.args.firsts.now (n / 65536)) _ _ _ c.any.ensures.ran
    (YieldsList-from_first (λ n. n) (λ numbers. numbers) (communities_of c.args.self.now) c.communities.ensures) (λ x b q k. search (rules, tests))
