use Rattle.std.proofs.Common.{ap, refl, sym, subst}
use Rattle.std.proofs.lemmas.Option.{slice_get_read}
use Rattle.rs_live.specs.Handled.{Has, AreKept}
use Rattle.rs_live.specs.Keeping.{with_rest}
use Rattle.rs_live.proofs.Places.{below_held, held_changed, held_there}
use Rattle.rs_live.proofs.live_link.LiveLink.finish.Goals as goal

pub returns-in-Some : goal.returns-in-Some
returns-in-Some g c = record {
  same_ports = refl;
  failed = refl;
  phase = refl;
  handled = λ h.
      let was = (slice_get_read _ _ _ c.in-Some.own.now refl c.in-Some.ensures.item.3.0 c.in-Some.ensures.item.1) in
      subst (λ held. Has g.P.Ports.asked c.finish.new.ports (AreKept held c.args.self.now.phase)) (sym (held_changed (with_rest c.finish.new.self.key c.finish.new.self.out) _ _ c.in-Some.own.now _ was refl))
      (c.finish.ensures.kept c.args.c _ _ (below_held c.args.self.now.connections.now.items c.args.c c.in-Some.ensures.item.3.0) (ap (λ x. x.rest_key) (held_there c.args.self.now.connections.now.items c.args.c c.in-Some.own.now was)) (ap (λ x. x.rest) (held_there c.args.self.now.connections.now.items c.args.c c.in-Some.own.now was)) h);
}
