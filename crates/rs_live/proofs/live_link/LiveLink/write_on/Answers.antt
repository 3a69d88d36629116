use Rattle.std.proofs.Common.{ap, refl, sym, subst}
use Rattle.std.proofs.lemmas.Option.{slice_get_read}
use Rattle.rs_live.specs.Handled.{Has, AreBroken, AreKept}
use Rattle.rs_live.specs.Keeping.{with_live}
use Rattle.rs_live.proofs.Places.{held_changed, held_there, parts}
use Rattle.rs_live.proofs.Handling.Writing.{breaks_all, waits_so, waits_written}
use Rattle.rs_live.proofs.live_link.LiveLink.write_on.Goals as goal

pub returns-in-Err-clause-broke : goal.returns-in-Err-clause-broke
returns-in-Err-clause-broke g c h =
    let was = (slice_get_read _ _ _ c.in-Some.own.now refl c.in-Some.ensures.item.3.0 c.in-Some.ensures.item.1) in
    subst (λ held. Has g.P.Ports.asked c.write.new.ports (AreBroken c.args.c c.in-Err.key held c.args.self.now.phase)) (sym (held_changed (waits_so c.write.new.self.out) _ _ c.in-Some.own.now _ was (parts c.write.ensures.key refl refl refl refl)))
    (breaks_all g.P.Ports.asked _ _ c.args.c _ _ _ _ _ _ (ap (λ x. x.key) (held_there c.args.self.now.connections.now.items c.args.c c.in-Some.own.now was)) (ap (λ x. x.waiting) (held_there c.args.self.now.connections.now.items c.args.c c.in-Some.own.now was)) c.in-Err.ensures.broke h)

pub returns-then-was_full-clause-ok : goal.returns-then-was_full-clause-ok
returns-then-was_full-clause-ok g c o h =
    let was = (slice_get_read _ _ _ c.in-Some.own.now refl c.in-Some.ensures.item.3.0 c.in-Some.ensures.item.1) in
    subst (λ held. Has g.P.Ports.asked c.write.new.ports (AreKept held c.args.self.now.phase)) (sym (held_changed (with_live c.write.new.self.key c.write.new.self.out) _ _ c.in-Some.own.now _ was refl))
    (waits_written g.P.Ports.asked _ _ c.args.c _ _ _ _ _ _ (ap (λ x. x.key) (held_there c.args.self.now.connections.now.items c.args.c c.in-Some.own.now was)) (ap (λ x. x.waiting) (held_there c.args.self.now.connections.now.items c.args.c c.in-Some.own.now was)) c.write.ensures.key (c.in-Ok.ensures.sent refl) h)

pub returns-else-was_full-clause-ok : goal.returns-else-was_full-clause-ok
returns-else-was_full-clause-ok g c o h =
    let was = (slice_get_read _ _ _ c.in-Some.own.now refl c.in-Some.ensures.item.3.0 c.in-Some.ensures.item.1) in
    subst (λ held. Has g.P.Ports.asked c.write.new.ports (AreKept held c.args.self.now.phase)) (sym (held_changed (with_live c.write.new.self.key c.write.new.self.out) _ _ c.in-Some.own.now _ was refl))
    (waits_written g.P.Ports.asked _ _ c.args.c _ _ _ _ _ _ (ap (λ x. x.key) (held_there c.args.self.now.connections.now.items c.args.c c.in-Some.own.now was)) (ap (λ x. x.waiting) (held_there c.args.self.now.connections.now.items c.args.c c.in-Some.own.now was)) c.write.ensures.key (c.in-Ok.ensures.sent refl) h)
