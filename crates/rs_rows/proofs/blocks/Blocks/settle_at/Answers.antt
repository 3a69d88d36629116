use Rattle.std.proofs.Common.{◌<◌, length, arith}
use Rattle.rs_rows.proofs.Listing.{rows_still}
use Rattle.rs_rows.proofs.blocks.Blocks.settle_at.Goals as goal

pub returns-then-place-len : goal.returns-then-place-len
returns-then-place-len c =
    let ps = c.self.inside.parts.items in
    let below : c.args.place < length ps = omega (arith, c.if-place-len.true, c.len.ensures, c.self.inside.parts.ok) in
    rows_still ps _ c.self.view_is c.args.place c.index_mut.result.now c.settle.new.self below c.index_mut.ensures.value c.settle.ensures
