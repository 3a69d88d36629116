use Rattle.std.proofs.Common.{◌≡◌, List}
use Rattle.rs_live.specs.Calls.{Call}
use Rattle.rs_live.specs.Sending.{Sent}
use Rattle.rs_live.proofs.connections.Connection.write.Given as goal

abbrev pub invariant-loop : goal.invariant-loop
invariant-loop g l = record {
  key : l.self.key ≡ l.fn.self.key;
  sent : (calls : List Call) → g.P.Ports.asked l.fn.ports calls → Sent g.P.Ports.asked l.fn.self.key calls l.fn.self.out l.ports (λ waiting. l.self.out ≡ waiting);
}
