use Rattle.std.proofs.Common.{◌≡◌, drop}
use Rattle.rs_policy.specs.Keys.{is_among}
use Rattle.rs_policy.proofs.keys.is_among.Given as goal

abbrev pub invariant-loop-key : goal.invariant-loop-key
invariant-loop-key l = is_among (drop l.key-index l.keys) l.text ≡ is_among l.keys l.text
