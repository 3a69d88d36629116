use Rattle.std.proofs.Common.{arith}
use Rattle.rs_outlet.proofs.waiting.chains.chain_all.Goals as goal

pub loop-place-preserved : goal.loop-place-preserved
loop-place-preserved c = record {
  rise = λ n e f below. c.chain_one.ensures.rises c.if-not-chain_one.false c.loop-place.invariant.rise n e f (omega (arith, below));
  linked = c.chain_one.ensures.linked c.loop-place.invariant.linked;
}
