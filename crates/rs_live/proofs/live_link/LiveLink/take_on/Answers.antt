use Rattle.std.proofs.Common.{[], Some, ◌∷◌, ap, refl, sym, subst, ◌∙◌}
use Rattle.std.proofs.lemmas.Option.{slice_get_read}
use Rattle.rs_core.specs.Drives.Steps.{Begin}
use Rattle.rs_live.specs.declared.connections.Connection.{Connection}
use Rattle.rs_live.specs.declared.live_link.Stage.TheVariants as stages
use Rattle.rs_live.specs.Operations.{Did}
use Rattle.rs_live.specs.Handled.{Has, AreKept}
use Rattle.rs_live.specs.Keeping.{Held, at, change, with_live, with_rest}
use Rattle.rs_live.proofs.Places.{below_held, change_again, held_changed, held_there, holds, parts}
use Rattle.rs_live.proofs.Handling.Connections.{begins}
use Rattle.rs_live.proofs.live_link.LiveLink.take_on.Goals as goal

pub returns-in-Some-clause-begun : goal.returns-in-Some-clause-begun
returns-in-Some-clause-begun g c incoming phase e h =
    let was = (slice_get_read _ _ _ c.in-Some.own.now refl c.in-Some.ensures.item.3.0 c.in-Some.ensures.item.1) in
    let left = with_rest c.close.new.self.key c.close.new.self.out in
    let to : Held → Held = λ x. holds (Some incoming.key) [] c.close.new.self.key c.close.new.self.out x.is_down in
    subst (λ held. Has g.P.Ports.asked c.close.new.ports (λ operations. AreKept held (at stages.Accept phase) (Did (Begin c.args.c) ∷ operations)))
    (change_again left (with_live (Some incoming.key) []) to _ _ (λ x. refl) ∙ sym (held_changed to _ _ c.in-Some.own.now _ was (parts (c.begin.ensures.key ∙ ap (λ k. Some k) (sym e)) c.begin.ensures.empty (ap (λ (x : Connection). x.key) c.begin.ensures.closing) (ap (λ (x : Connection). x.out) c.begin.ensures.closing) c.begin.ensures.down)))
    (begins g.P.Ports.asked (change c.args.c left _) phase c.args.c incoming _
    (c.close.ensures.kept c.args.c _ _ (below_held c.args.self.now.connections.now.items c.args.c c.in-Some.ensures.item.3.0) (ap (λ x. x.rest_key) (held_there c.args.self.now.connections.now.items c.args.c c.in-Some.own.now was)) (ap (λ x. x.rest) (held_there c.args.self.now.connections.now.items c.args.c c.in-Some.own.now was)) h))
