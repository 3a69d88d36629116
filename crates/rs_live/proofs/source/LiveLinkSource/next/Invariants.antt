use Rattle.rs_live.specs.Handled.{IsRunning}
use Rattle.rs_live.specs.Leaving.{SamePorts}
use Rattle.rs_live.proofs.source.LiveLinkSource.next.Given as goal

abbrev pub invariant-loop : goal.invariant-loop
invariant-loop g l = record {
  same_ports : SamePorts l.fn.self l.self;
  answers : IsRunning g.P.Ports.asked l.fn.self → IsRunning g.P.Ports.asked l.self;
}
