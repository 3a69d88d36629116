use Rattle.std.proofs.Common.{◌≡◌}
use Rattle.rs_outlet.specs.Pending.Linking.{place_from, place_of}
use Rattle.rs_outlet.proofs.waiting.linking.place_of.Given as goal

abbrev pub invariant-loop-left : goal.invariant-loop-left
invariant-loop-left l = place_from l.table l.hash l.left l.place ≡ place_of l.table l.hash

abbrev pub decreases-loop-left : goal.decreases-loop-left
decreases-loop-left l = l.left
