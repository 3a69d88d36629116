use Rattle.std.proofs.Common.{arith}
use Rattle.rs_outlet.proofs.Pending.Filling.{all_rows}
use Rattle.rs_outlet.proofs.filled.has_rows_of.Goals as goal

pub returns : goal.returns
returns c = λ t.
    all_rows c.args.block.now.rows.items c.args.news.now c.loop-index.index (let b = c.args.block.now in b.full) c.requires
    (omega (arith, c.loop-index-test.false, c.loop-index.auto.index-end)) c.loop-index.invariant
