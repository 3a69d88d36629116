use Rattle.std.proofs.Common.{◌≡◌, ◌≤◌, ◌<◌, ◌+◌, ◌*◌, ℕ, false}
use Rattle.rs_adjin.specs.Held.{has_number}
use Rattle.rs_adjin.proofs.held.Held.first_from.Given as goal

abbrev pub invariant-loop-place : goal.invariant-loop-place
invariant-loop-place l = record {
  bit : l.bit < 64;
  from : l.first ≤ l.place * 64 + l.bit;
  none : (m : ℕ) → l.first ≤ m → m < l.place * 64 + l.bit → has_number l.self m ≡ false;
}
