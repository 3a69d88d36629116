use Rattle.std.proofs.Common.{◌≡◌}
use Rattle.rs_live.specs.declared.live_link.Stage.TheVariants.{Over}
use Rattle.rs_live.specs.Handled.{IsRunning}
use Rattle.rs_live.specs.Leaving.{SamePorts}
use Rattle.rs_live.proofs.serve.serve_on.Given as goal

abbrev pub invariant-loop : goal.invariant-loop
invariant-loop g l = record {
  same_ports : SamePorts l.fn.link l.link;
  phase : l.fn.link.phase.stage ≡ Over → l.link.phase.stage ≡ Over;
  handled : l.fn.link.phase.stage ≡ Over → IsRunning g.P.Ports.asked l.fn.link → IsRunning g.P.Ports.asked l.link;
}
