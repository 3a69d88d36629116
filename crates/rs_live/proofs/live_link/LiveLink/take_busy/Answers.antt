use Rattle.std.proofs.Common.{◌≡◌, ◌<◌, Some, None, refl, subst, sym}
use Rattle.std.specs.Prelude.{IfSome}
use Rattle.std.proofs.lemmas.Option.{slice_get_read}
use Rattle.rs_live.specs.declared.connections.ClientConnections.{ClientConnections}
use Rattle.rs_live.proofs.Places.{held_same}
use Rattle.rs_live.proofs.live_link.LiveLink.take_busy.Goals as goal

pub returns-in-Some-clause-leaves : goal.returns-in-Some-clause-leaves
returns-in-Some-clause-leaves g c = record { same_ports = refl; failed = refl; held = held_same _ _ c.in-Some.own.now _ (slice_get_read _ _ _ c.in-Some.own.now refl c.in-Some.ensures.item.3.0 c.in-Some.ensures.item.1) c.take_busy.ensures.held; phase = refl; unasked = refl }

pub returns-in-Some-clause-none : goal.returns-in-Some-clause-none
returns-in-Some-clause-none g c = subst (λ o. IfSome o (λ (own : ClientConnections). own.busy ≡ 0 → c.take_busy.result ≡ None)) (sym (slice_get_read _ _ _ c.in-Some.own.now refl c.in-Some.ensures.item.3.0 c.in-Some.ensures.item.1)) c.take_busy.ensures.none

pub returns-in-Some-clause-some : goal.returns-in-Some-clause-some
returns-in-Some-clause-some g c = subst (λ o. IfSome o (λ (own : ClientConnections). 0 < own.busy → c.take_busy.result ≡ Some (own.peer, own.busy))) (sym (slice_get_read _ _ _ c.in-Some.own.now refl c.in-Some.ensures.item.3.0 c.in-Some.ensures.item.1)) c.take_busy.ensures.some
