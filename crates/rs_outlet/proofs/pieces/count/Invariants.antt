use Rattle.std.proofs.Common.{◌≡◌, length, take}
use Rattle.rs_outlet.specs.Decided.Plans.{news_in}
use Rattle.rs_outlet.proofs.pieces.count.Given as goal

abbrev pub invariant-loop-piece : goal.invariant-loop-piece
invariant-loop-piece l = l.count ≡ length (news_in (take l.piece-index l.pieces))
