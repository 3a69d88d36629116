use Rattle.std.proofs.Common.{◌≡◌, take}
use Rattle.rs_policy.proofs.rules.alike.are_same_uses.Given as goal

abbrev pub invariant-loop-place : goal.invariant-loop-place
invariant-loop-place l = take l.place l.one ≡ take l.place l.other
