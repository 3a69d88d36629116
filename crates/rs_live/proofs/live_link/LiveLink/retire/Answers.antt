use Rattle.std.proofs.Common.{◌∷◌, ap, refl, sym, subst, ◌∙◌}
use Rattle.std.specs.Prelude.{IsSome}
use Rattle.std.proofs.lemmas.Option.{slice_get_read}
use Rattle.rs_core.specs.Drives.Steps.{End}
use Rattle.rs_live.specs.Operations.{Did}
use Rattle.rs_live.specs.Handled.{Has, AreKept}
use Rattle.rs_live.specs.Keeping.{Held, change, with_rest}
use Rattle.rs_live.proofs.Changing.{ended, ended_some}
use Rattle.rs_live.proofs.Places.{below_held, change_again, held_changed, held_there, parts}
use Rattle.rs_live.proofs.Handling.Connections.{ends_session}
use Rattle.rs_live.proofs.live_link.LiveLink.retire.Goals as goal

pub returns-in-Some-clause-ended : goal.returns-in-Some-clause-ended
returns-in-Some-clause-ended g c some h =
    let was = (slice_get_read _ _ _ c.in-Some.own.now refl c.in-Some.ensures.item.3.0 c.in-Some.ensures.item.1) in
    let there = held_there c.args.self.now.connections.now.items c.args.c c.in-Some.own.now was in
    let left = with_rest c.close.new.self.key c.close.new.self.out in
    let to : Held → Held = λ x. ended (left x) in
    subst (λ held. Has g.P.Ports.asked c.close.new.ports (λ operations. AreKept held c.args.self.now.phase (Did (End c.args.c) ∷ operations)))
    (change_again left ended to _ _ (λ x. refl) ∙ sym (held_changed to _ _ c.in-Some.own.now _ was (parts c.retire.ensures.key c.retire.ensures.empty c.retire.ensures.rest_key c.retire.ensures.rest c.retire.ensures.down ∙ ended_some _ _ _ _ _ (subst (λ x. IsSome x.key) there some))))
    (ends_session g.P.Ports.asked (change c.args.c left _) _ c.args.c _
    (c.close.ensures.kept c.args.c _ _ (below_held c.args.self.now.connections.now.items c.args.c c.in-Some.ensures.item.3.0) (ap (λ x. x.rest_key) there) (ap (λ x. x.rest) there) h))
