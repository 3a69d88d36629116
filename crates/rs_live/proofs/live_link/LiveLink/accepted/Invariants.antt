use Rattle.std.proofs.Common.{◌≡◌}
use Rattle.rs_live.specs.declared.live_link.Stage.TheVariants.{Accept}
use Rattle.rs_live.specs.Handled.{IsRunning}
use Rattle.rs_live.specs.Leaving.{SamePorts}
use Rattle.rs_live.proofs.live_link.LiveLink.accepted.Given as goal

abbrev pub invariant-loop : goal.invariant-loop
invariant-loop g l = record {
  same_ports : SamePorts l.fn.self l.self;
  phase : l.fn.self.phase.stage ≡ Accept → l.self.phase.stage ≡ Accept;
  answers : l.fn.self.phase.stage ≡ Accept → IsRunning g.P.Ports.asked l.fn.self → IsRunning g.P.Ports.asked l.self;
}
