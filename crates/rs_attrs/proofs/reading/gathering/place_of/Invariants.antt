use Rattle.std.proofs.Common.{◌≤◌, length, drop}
use Rattle.std.specs.List.{AllByRecursion}
use Rattle.rs_attrs.proofs.reading.gathering.place_of.Given as goal

-- from here on none is lower
abbrev pub invariant-loop-at : goal.invariant-loop-at
invariant-loop-at l = record {
  within : l.at ≤ length l.kept;
  before : AllByRecursion (λ f. l.kind ≤ f.kind) (drop l.at l.kept);
}

abbrev pub decreases-loop-at : goal.decreases-loop-at
decreases-loop-at l = l.at
