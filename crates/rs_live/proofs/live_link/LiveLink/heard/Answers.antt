use Rattle.std.proofs.Common.{refl, ◌∙◌}
use Rattle.std.proofs.lemmas.Option.{slice_get_read}
use Rattle.rs_live.proofs.Places.{held_same}
use Rattle.rs_live.proofs.live_link.LiveLink.heard.Goals as goal

pub returns-in-Some : goal.returns-in-Some
returns-in-Some g c = record { same_ports = refl; failed = refl; held = held_same _ _ c.in-Some.own.now _ (slice_get_read _ _ _ c.in-Some.own.now refl c.in-Some.ensures.item.3.0 c.in-Some.ensures.item.1) (c.pace.ensures ∙ c.hear.ensures.held); phase = refl; unasked = refl }
