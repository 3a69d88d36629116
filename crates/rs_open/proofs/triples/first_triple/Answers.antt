use Rattle.std.proofs.Common.{refl}
use Rattle.rs_open.proofs.Splitting.{row_in}
use Rattle.rs_open.proofs.triples.first_triple.Goals as goal

pub returns-clause-row : goal.returns-clause-row
returns-clause-row c =
    row_in c.args.octets.now _ c.split_at.result.0.now c.split_at.result.1.now c.from-length.result
    c.in-len2-up.len_at_least refl c.from-length.ensures c.if-behind-length.false c.split_at.ensures.front c.split_at.ensures.back
