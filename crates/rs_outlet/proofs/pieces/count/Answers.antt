use Rattle.std.proofs.Common.{◌∙◌, ◌+◌, length, take, arith, ap, sym}
use Rattle.std.proofs.lemmas.List.{length-append}
use Rattle.rs_outlet.specs.Decided.Plans.{news_in, news_of}
use Rattle.rs_outlet.proofs.Pending.Pieces.{news_next}
use Rattle.rs_outlet.proofs.pieces.count.Goals as goal

pub loop-piece-preserved : goal.loop-piece-preserved
loop-piece-preserved c =
    let ps = c.args.pieces.now in
    let i = c.loop-piece.piece-index in
    c.in_ok-count.ensures.1 ∙ (λ j. c.loop-piece.invariant j + c.len.ensures j)
    ∙ sym (ap length (news_next ps i c.piece-item.result (omega arith) c.piece-item.is) ∙ length-append (news_in (take i ps)) (news_of c.piece-item.result))
