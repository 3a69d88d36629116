use Rattle.std.proofs.Common.{arith}
use Rattle.rs_attrs.proofs.Fields.Placing.{before_more}
use Rattle.rs_attrs.proofs.reading.gathering.place_of.Goals as goal

pub loop-at-preserved : goal.loop-at-preserved
loop-at-preserved c = record {
  within = omega (arith, c.loop-at.invariant.within);
  before = before_more c.args.kind c.args.kept.now c.loop-at.at _ c.loop-at-test.true c.loop-at.invariant.within c.if-kept-at.false c.loop-at.invariant.before;
}
