-- What lies in a row, and the route that it stands for.
use Rattle.std.specs.Prelude.{Option, None, Some, IfSome}
use Rattle.std.specs.Arc.{arc_value}
use Rattle.rs_octets.specs.Prefixes.{IsIpv4Prefix}
use Rattle.rs_rows.specs.Rows.{Row}
use Rattle.rs_rows.specs.declared.place.Held.{Held}
use Rattle.rs_rows.specs.declared.place.Held.TheVariants as held
use Rattle.rs_rows.specs.declared.place.Lent.{Lent}

abbrev pub row_of : Held → Option Row
row_of held.Free = None
row_of (held.Taken len hash bits attrs) = Some (record { prefix = record { bits = bits; len = len }; attributes = arc_value attrs })

-- what is held has a prefix that there is
abbrev pub IsPlace : Held → Type 0
IsPlace h = IfSome (row_of h) (λ row. IsIpv4Prefix row.prefix)

abbrev pub lent_row : Lent → Row
lent_row lent = record { prefix = lent.prefix; attributes = arc_value lent.attrs.now }
