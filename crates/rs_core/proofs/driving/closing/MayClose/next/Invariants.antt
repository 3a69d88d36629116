use Rattle.std.proofs.Common.{◌≡◌, ◌≤◌, ◌<◌, ◌+◌, ◌*◌, ℕ, false}
use Rattle.rs_core.specs.Drives.Closing.{may_close}
use Rattle.rs_core.proofs.driving.closing.MayClose.next.Given as goal

abbrev pub invariant-loop-place : goal.invariant-loop-place
invariant-loop-place l = record {
  bit : l.bit < 64;
  from : l.from ≤ l.place * 64 + l.bit;
  none : (c : ℕ) → l.from ≤ c → c < l.place * 64 + l.bit → may_close l.self c ≡ false;
}
