use Rattle.std.proofs.Common.{◌∙◌, ◌∷◌, ◌++◌, [], arith}
use Rattle.std.specs.Arc.{arc_value}
use Rattle.rs_rows.proofs.Listing.{taken_more}
use Rattle.rs_rows.proofs.draft.Draft.over.Goals as goal

pub loop-index-preserved : goal.loop-index-preserved
loop-index-preserved c =
    let block = arc_value c.args.block.now in
    record {
      items = c.push.ensures.items ∙ (λ i. c.loop-index.invariant.items i ++ c.in_ok-within.ensures i ∷ [])
          ∙ taken_more block.rows.items c.loop-index.index (omega (arith, block.full, c.loop-index-test.true));
      len = omega (arith, c.push.ensures.len, c.loop-index.invariant.len);
    }
