use Rattle.std.proofs.Common.{◌≡◌}
use Rattle.rs_live.specs.declared.live_link.Stage.TheVariants.{Read}
use Rattle.rs_live.specs.Handled.{IsRunning}
use Rattle.rs_live.specs.Leaving.{SamePorts}
use Rattle.rs_live.proofs.live_link.LiveLink.read_on.Given as goal

abbrev pub invariant-loop : goal.invariant-loop
invariant-loop g l = record {
  same_ports : SamePorts l.fn.self l.self;
  phase : l.fn.self.phase.stage ≡ Read → l.self.phase.stage ≡ Read;
  answers : l.fn.self.phase.stage ≡ Read → IsRunning g.P.Ports.asked l.fn.self → IsRunning g.P.Ports.asked l.self;
}
