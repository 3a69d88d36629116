use Rattle.rs_update.proofs.OneEffect.{overlay_alike}
use Rattle.rs_update.proofs.laws.same_changes_overlay_alike.Goals as goal

pub returns : goal.returns
returns c = overlay_alike
