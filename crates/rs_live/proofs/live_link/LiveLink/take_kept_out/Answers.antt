use Rattle.std.proofs.Common.{◌≡◌, ◌<◌, Some, None, refl, subst, sym}
use Rattle.std.specs.Prelude.{IfSome}
use Rattle.std.proofs.lemmas.Option.{slice_get_read}
use Rattle.rs_live.specs.declared.connections.ClientConnections.{ClientConnections}
use Rattle.rs_live.proofs.Places.{held_same}
use Rattle.rs_live.proofs.live_link.LiveLink.take_kept_out.Goals as goal

pub returns-in-Some-clause-leaves : goal.returns-in-Some-clause-leaves
returns-in-Some-clause-leaves g c = record { same_ports = refl; failed = refl; held = held_same _ _ c.in-Some.own.now _ (slice_get_read _ _ _ c.in-Some.own.now refl c.in-Some.ensures.item.3.0 c.in-Some.ensures.item.1) c.take_kept_out.ensures.held; phase = refl; unasked = refl }

pub returns-in-Some-clause-none : goal.returns-in-Some-clause-none
returns-in-Some-clause-none g c = subst (λ o. IfSome o (λ (own : ClientConnections). own.kept_out ≡ 0 → c.take_kept_out.result ≡ None)) (sym (slice_get_read _ _ _ c.in-Some.own.now refl c.in-Some.ensures.item.3.0 c.in-Some.ensures.item.1)) c.take_kept_out.ensures.none

pub returns-in-Some-clause-some : goal.returns-in-Some-clause-some
returns-in-Some-clause-some g c = subst (λ o. IfSome o (λ (own : ClientConnections). 0 < own.kept_out → c.take_kept_out.result ≡ Some (own.peer, own.kept_out))) (sym (slice_get_read _ _ _ c.in-Some.own.now refl c.in-Some.ensures.item.3.0 c.in-Some.ensures.item.1)) c.take_kept_out.ensures.some
