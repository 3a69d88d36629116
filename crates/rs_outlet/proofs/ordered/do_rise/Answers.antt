use Rattle.rs_outlet.proofs.Decided.TouchedList.{rises_all, rises_more, rises_once}
use Rattle.rs_outlet.proofs.ordered.do_rise.Goals as goal

pub loop-index-preserved : goal.loop-index-preserved
loop-index-preserved c = rises_more c.args.touches.now c.loop-index.index c.index-touches-index-in-loop-index.result c.index-touches-index.result c.loop-index.invariant c.if-touches-index.false

pub returns : goal.returns
returns c = λ _. rises_once c.args.touches.now (rises_all c.args.touches.now c.loop-index.index c.loop-index-test.false c.loop-index.invariant)
