use Rattle.std.proofs.Common.{◌≡◌, ◌<◌, ℕ, get_or}
use Rattle.rs_lists.specs.declared.Span.{Span}
use Rattle.rs_policy.specs.Indexed.{range_by}
use Rattle.rs_policy.specs.declared.rules.Range.{Range}
use Rattle.rs_policy.proofs.config.indexed.have_ranges.Given as goal

abbrev pub invariant-loop-place : goal.invariant-loop-place
invariant-loop-place l = (k : ℕ) (s : Span) (r : Range) → k < l.place → range_by (get_or l.spans k s) ≡ get_or l.ranges k r
