use Rattle.std.proofs.Common.{◌≡◌, cond, Some, take}
use Rattle.std.specs.Arc.{arc_value}
use Rattle.rs_octets.specs.Prefixes.{Prefix}
use Rattle.rs_attrs.specs.Effects.{has_prefix}
use Rattle.rs_compare.specs.Heard.{table_in}
use Rattle.rs_compare.proofs.heard.Sent.announce.Given as goal

abbrev pub invariant-loop-prefix : goal.invariant-loop-prefix
invariant-loop-prefix l = (p : Prefix) → table_in l.self p ≡ cond (has_prefix p (take l.prefix-index l.prefixes)) (Some (arc_value l.attrs)) (table_in l.fn.self p)
