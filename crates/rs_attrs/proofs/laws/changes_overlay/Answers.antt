use Rattle.rs_attrs.proofs.Overlaying.{newest_overlays, last_overlays}
use Rattle.rs_attrs.proofs.laws.changes_overlay.Goals as goal

pub returns-clause-newest_first : goal.returns-clause-newest_first
returns-clause-newest_first c = newest_overlays

pub returns-clause-newest_last : goal.returns-clause-newest_last
returns-clause-newest_last c = last_overlays
