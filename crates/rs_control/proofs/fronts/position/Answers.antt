use Rattle.std.proofs.Common.{rules, tests, ◌==◌}
use Rattle.std.proofs.lemmas.Iterator.{YieldsList-from_slice}
use Rattle.std.proofs.lemmas.Iterator.Search.{position_from_yields_List}
use Rattle.rs_control.proofs.fronts.position.Goals as goal

pub returns-clause-place : goal.returns-clause-place
returns-clause-place c = position_from_yields_List (λ octet. octet == c.args.wanted) _ _ c.position.result c.position.ensures.ran (YieldsList-from_slice c.args.octets.now cc) (λ x b q k. search (rules, tests))
