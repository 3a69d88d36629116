use Rattle.rs_live.specs.Handled.{IsRunning}
use Rattle.rs_live.specs.Leaving.{SamePorts}
use Rattle.rs_live.proofs.serve.play_round.Given as goal

abbrev pub invariant-loop : goal.invariant-loop
invariant-loop g l = record {
  same_ports : SamePorts l.fn.link l.link;
  handled : IsRunning g.P.Ports.asked l.fn.link → IsRunning g.P.Ports.asked l.link;
}
