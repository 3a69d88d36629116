use Rattle.std.proofs.Common.{length}
use Rattle.rs_places.proofs.steps.+value_at.Given as goal

-- the steps that are left
abbrev pub decreases-value_at : goal.decreases-value_at
decreases-value_at l = length l.steps.now
