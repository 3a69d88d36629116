use Rattle.std.proofs.Common.{refl}
use Rattle.std.proofs.lemmas.Option.{slice_get_read}
use Rattle.rs_live.specs.Keeping.{with_down}
use Rattle.rs_live.proofs.Places.{held_changed}
use Rattle.rs_live.proofs.live_link.LiveLink.keep_down.Goals as goal

pub returns-in-Some-clause-held : goal.returns-in-Some-clause-held
returns-in-Some-clause-held g c = held_changed (with_down c.args.is_down) _ _ c.in-Some.own.now _ (slice_get_read _ _ _ c.in-Some.own.now refl c.in-Some.ensures.item.3.0 c.in-Some.ensures.item.1) refl
