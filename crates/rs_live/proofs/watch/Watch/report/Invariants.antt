use Rattle.rs_live.specs.Leaving.{KeepsOn}
use Rattle.rs_live.proofs.watch.Watch.report.Given as goal

abbrev pub invariant-loop-client : goal.invariant-loop-client
invariant-loop-client g l = KeepsOn g.P.Ports.asked l.fn.link l.link
