use Rattle.std.proofs.Common.{◌≡◌, length}
use Rattle.rs_outlet.specs.Listing.{routes_at}
use Rattle.rs_outlet.proofs.routes.next_route.Given as goal

abbrev pub invariant-loop-prefix : goal.invariant-loop-prefix
invariant-loop-prefix l = routes_at l.rows.rows.items l.numbers ≡ routes_at l.rows.rows.items l.fn.numbers

abbrev pub decreases-loop-prefix : goal.decreases-loop-prefix
decreases-loop-prefix l = length l.numbers
