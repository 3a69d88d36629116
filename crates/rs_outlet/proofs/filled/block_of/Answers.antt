use Rattle.std.proofs.Common.{◌∙◌, Some, arith, slice_set}
use Rattle.rs_outlet.proofs.Pending.Filling.{row_put}
use Rattle.rs_outlet.proofs.filled.block_of.Goals as goal

pub loop-index-preserved : goal.loop-index-preserved
loop-index-preserved c =
    let i = c.loop-index.index in
    let n = c.index-news-index.result in
    c.put.ensures
    ∙ (λ j. slice_set (c.loop-index.invariant j) i (Some (record { prefix = n.prefix; attributes = c.in_ok-clone.ensures.cases j })))
    ∙ row_put c.args.news.now i n (omega (arith, c.loop-index-test.true, c.loop-index.auto.index-end, c.requires)) c.requires c.index-news-index.is
