use Rattle.std.proofs.Common.{ap, ◌∙◌, subst, rules}
use Rattle.rs_live.specs.declared.live_link.Phase.{Phase}
use Rattle.rs_live.specs.Handled.{Has, IsServed, Keeps}
use Rattle.rs_live.specs.Keeping.{before, held_of}
use Rattle.rs_live.proofs.Handling.Calls.{begun, keeps_at}
use Rattle.rs_live.proofs.serve.serve.Goals as goal

pub returns : goal.returns
returns g c = record {
  served = λ a.
      let first : Keeps g.P.Ports.asked c.new-link.result = keeps_at g.P.Ports.asked c.new-link.result (held_of c.in-Ok.connections.items) before _ (search rules) c.new-link.ensures.phase c.new-link.ensures.value (begun g.P.Ports.asked _ _ c.in-Ok.ensures a) in
      let h : Has g.P.Ports.asked c.serve_on.new.link.ports.now (IsServed c.args.limits.sessions c.serve_on.result) = c.serve_on.ensures.served (ap (λ (w : Phase). w.stage) c.new-link.ensures.phase) (c.new-link.ensures.fine, first) in
      let n = c.serve_on.ensures.same_ports ∙ c.new-link.ensures.same_ports in
      subst (λ p. Has g.P.Ports.asked p (IsServed c.args.limits.sessions c.serve_on.result)) (search rules) h;
}
