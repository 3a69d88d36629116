use Rattle.std.proofs.Common.{◌∷◌, ◌∙◌, ◌≤◌, ap, arith, inl, inr, length, refl, sym, subst, Some}
use Rattle.std.specs.Prelude.{IsSome, vec_len}
use Rattle.std.proofs.lemmas.Bool.{cases_lt, false≢true}
use Rattle.std.proofs.lemmas.Option.{slice_get_read}
use Rattle.rs_core.specs.Drives.Steps.{Offer}
use Rattle.rs_live.specs.Operations.{Did}
use Rattle.rs_live.specs.Handled.{Has, AreKept}
use Rattle.rs_live.specs.Keeping.{with_live}
use Rattle.rs_live.proofs.Places.{below_held, held_changed, held_same, held_there, none_past}
use Rattle.rs_live.proofs.Changing.{none_unless}
use Rattle.rs_live.proofs.Handling.Writing.{takes_more, takes_none}
use Rattle.rs_live.proofs.live_link.LiveLink.hand.Goals as goal

pub returns-clause-kept : goal.returns-clause-kept
returns-clause-kept g c h =
    let was = (slice_get_read _ _ _ c.in-Some.own.now refl c.in-Some.ensures.item.3.0 c.in-Some.ensures.item.1) in
    subst (λ held. Has g.P.Ports.asked c.args.self.now.ports.now (λ operations. AreKept held c.args.self.now.phase (Did (Offer c.args.c c.args.octets.now (Some c.offer.result)) ∷ operations))) (sym (held_changed (with_live c.offer.new.self.live.key c.offer.new.self.live.out) _ _ c.in-Some.own.now _ was c.offer.ensures.held))
    (takes_more g.P.Ports.asked _ _ c.args.c c.offer.result c.args.octets.now _ _ _ _ _ (below_held c.args.self.now.connections.now.items c.args.c c.in-Some.ensures.item.3.0) (ap (λ x. x.key) (held_there c.args.self.now.connections.now.items c.args.c c.in-Some.own.now was)) (ap (λ x. x.waiting) (held_there c.args.self.now.connections.now.items c.args.c c.in-Some.own.now was)) c.offer.ensures.key (c.is_open.ensures.0 c.if-not-is_open.false) c.offer.ensures.behind c.offer.ensures.some h)

pub returns-then-not-is_open-clause-kept : goal.returns-then-not-is_open-clause-kept
returns-then-not-is_open-clause-kept g c h =
    let was = slice_get_read _ _ _ c.in-Some.own.now refl c.in-Some.ensures.item.3.0 c.in-Some.ensures.item.1 in
    let same = held_same c.args.self.now.connections.now.items c.args.c c.in-Some.own.now c.in-Some.own.now (slice_get_read _ _ _ c.in-Some.own.now refl c.in-Some.ensures.item.3.0 c.in-Some.ensures.item.1) refl in
    subst (λ held. Has g.P.Ports.asked c.args.self.now.ports.now (λ operations. AreKept held c.args.self.now.phase (Did (Offer c.args.c c.args.octets.now (Some 0)) ∷ operations))) (sym same)
    (takes_none g.P.Ports.asked _ _ c.args.c c.args.octets.now _
    (ap (λ x. x.key) (held_there c.args.self.now.connections.now.items c.args.c c.in-Some.own.now was) ∙ none_unless _ _ c.is_open.ensures.1 c.if-not-is_open.true) h)

pub returns-in_default-clause-kept : goal.returns-in_default-clause-kept
returns-in_default-clause-kept g c h =
    let past : length c.args.self.now.connections.now.items ≤ c.args.c = elim (cases_lt c.args.c (vec_len c.args.self.now.connections.now)) [
      | inl below ↦ absurd (false≢true (subst (λ o. IsSome o) c.in_default.is (c.get_mut.ensures.variant.1 below)))
      | inr le ↦ omega (arith, le, c.args.self.now.connections.now.ok)
    ] in
    takes_none g.P.Ports.asked _ _ c.args.c _ _ (none_past c.args.self.now.connections.now.items c.args.c past) h
