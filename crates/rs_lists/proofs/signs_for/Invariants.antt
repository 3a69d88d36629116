use Rattle.std.proofs.Common.{◌≡◌, ◌≤◌, ◌<◌, ℕ, length, ◌+◌, ◌-◌, ◌*◌}
use Rattle.rs_lists.specs.Lists.{sign_at, span_at}
use Rattle.rs_lists.proofs.signs_for.Given as goal

-- a sign stands at each sixteenth range before this place
abbrev pub invariant-loop-place : goal.invariant-loop-place
invariant-loop-place l = (l.place ≡ 16 * length l.signs.items) × ((k : ℕ) → k < length l.signs.items → (16 * k < length l.spans) × (sign_at l.signs.items k ≡ (span_at l.spans (16 * k)).low))

abbrev pub decreases-loop-place : goal.decreases-loop-place
decreases-loop-place l = length l.spans - l.place
