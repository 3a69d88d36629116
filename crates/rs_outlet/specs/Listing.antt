-- The routes of a Loc-RIB, one after the other.
use Rattle.std.specs.Prelude.{ℕ, Option, None, Some, List, [], ◌∷◌}
use Rattle.rs_octets.specs.Prefixes.{Prefix}
use Rattle.rs_attrs.specs.Meaning.{Attribute}
use Rattle.rs_rows.specs.Rows.{Row}
use Rattle.rs_outlet.specs.Inside.{attributes_at}

-- a prefix with its route, if it has one, before the others
abbrev pub with_route : Prefix → Option (List Attribute) → List (Prefix × List Attribute) → List (Prefix × List Attribute)
with_route p None rest = rest
with_route p (Some m) rest = (p, m) ∷ rest

-- the routes of the prefixes that stand at these numbers
abbrev pub routes_at : List (Option Row) → List (Prefix × ℕ) → List (Prefix × List Attribute)
routes_at rows [] = []
routes_at rows (e ∷ es) = with_route e.0 (attributes_at rows e.1) (routes_at rows es)
