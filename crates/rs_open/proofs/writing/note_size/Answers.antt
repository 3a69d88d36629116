use Rattle.std.proofs.Common.{◌≡◌, length, rules, arith}
use Rattle.std.proofs.lemmas.List.{length-take}
use Rattle.rs_open.proofs.writing.note_size.Goals as goal

pub returns-clause-exact : goal.returns-clause-exact
returns-clause-exact c =
    let size : length c.args.extra ≡ 129 = search rules in
    omega (arith, length-take c.args.count c.args.extra, c.min.ensures, c.from.ensures)
