use Rattle.std.proofs.Common.{sym, rules, tests}
use Rattle.std.proofs.lemmas.Iterator.Consumers.{YieldsList-from_first}
use Rattle.std.proofs.lemmas.Iterator.Search.{any_from_yields_List}
use Rattle.rs_octets.proofs.Members.{any_false}
use Rattle.rs_attrs.specs.Getters.{communities_of}
use Rattle.rs_attrs.specs.Stripping.{is_stripped, taken_by}
use Rattle.rs_attrs.proofs.stripping.Strip.changes_communities.Goals as goal

pub returns-then-takes_none : goal.returns-then-takes_none
returns-then-takes_none c = sym (any_false _ (communities_of c.args.attrs.now) (λ n has. c.takes_none.ensures c.if-takes_none.true n))

pub returns : goal.returns
returns c =
    any_from_yields_List (is_stripped (taken_by c.args.self.now)) _ _ _ c.any.ensures.ran
    (YieldsList-from_first (λ n. n) (λ numbers. numbers) (communities_of c.args.attrs.now) c.communities.ensures) (λ x b q k. search (rules, tests))
