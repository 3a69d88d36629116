use Rattle.std.proofs.Common.{◌≡◌, cond, None, take}
use Rattle.rs_octets.specs.Prefixes.{Prefix}
use Rattle.rs_attrs.specs.Effects.{has_prefix}
use Rattle.rs_compare.specs.Heard.{table_in}
use Rattle.rs_compare.proofs.heard.Sent.withdraw.Given as goal

abbrev pub invariant-loop-prefix : goal.invariant-loop-prefix
invariant-loop-prefix l = (p : Prefix) → table_in l.self p ≡ cond (has_prefix p (take l.prefix-index l.prefixes)) None (table_in l.fn.self p)
