use Rattle.std.proofs.Common.{length, ap, arith}
use Rattle.rs_rows.specs.Rows.{Listed}
use Rattle.rs_rows.proofs.Listing.{rows_length}
use Rattle.rs_rows.proofs.blocks.Blocks.count.Goals as goal

pub returns-clause-rows : goal.returns-clause-rows
returns-clause-rows c =
    let count = rows_length c.self.inside.parts.items in
    let is = ap (λ (v : Listed). length v.items) c.self.view_is in
    omega (arith, count, is, c.len.ensures, c.self.inside.parts.ok)
