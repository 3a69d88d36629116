-- The prefix of a row, as it lies in memory.
use Rattle.std.specs.Prelude.{Option, None, Some, IfSome}
use Rattle.rs_octets.specs.Prefixes.{Prefix, IsIpv4Prefix}
use Rattle.rs_adjin.specs.declared.row_prefix.Parts.{Parts}
use Rattle.rs_adjin.specs.declared.row_prefix.Parts.TheVariants as parts

-- the prefix that its parts make
abbrev pub prefix_of : Parts → Option Prefix
prefix_of parts.Absent = None
prefix_of (parts.Present len bits) = Some (record { bits = bits; len = len })

-- it is one that there is
abbrev pub IsWhole : Parts → Type 0
IsWhole p = IfSome (prefix_of p) IsIpv4Prefix
