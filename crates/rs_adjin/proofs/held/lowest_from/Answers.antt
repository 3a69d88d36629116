use Rattle.std.proofs.Common.{◌<◌, ◌/◌, ◌^◌, arith, rules}
use Rattle.std.proofs.lemmas.Bool.Decides.{nat_tests}
use Rattle.rs_adjin.proofs.Bits.{none_behind, lowest}
use Rattle.rs_adjin.proofs.held.lowest_from.Goals as goal

pub returns-then-rest-eq0-clause-none : goal.returns-then-rest-eq0-clause-none
returns-then-rest-eq0-clause-none c told i low high = none_behind c.args.word c.args.first (grind (arith, nat_tests, c.if-rest-eq0.true)) i low

pub returns-clause-found : goal.returns-clause-found
returns-clause-found c =
    let some : 0 < c.args.word / 2 ^ c.args.first = grind (arith, nat_tests, c.if-rest-eq0.false) in
    let facts = lowest c.args.word c.args.first (search rules) (search rules) some in
    (omega arith, facts.0, facts.1, facts.2)
