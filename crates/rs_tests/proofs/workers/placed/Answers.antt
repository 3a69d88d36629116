use Rattle.std.proofs.Common.{arith}
use Rattle.rs_workers.proofs.Placing.{push_placed}
use Rattle.rs_tests.proofs.workers.placed.Goals as goal

pub loop-outlet-preserved : goal.loop-outlet-preserved
loop-outlet-preserved g c =
    push_placed c.args.config.now c.loop-outlet.same.items c.push.new.self.items c.in-Some.outlet (grind arith) c.loop-outlet.invariant (omega arith)
