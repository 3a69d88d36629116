-- The first route of a table from a number on.
use Rattle.std.specs.Prelude.{◌≡◌, ℕ, ◌≤◌, ◌<◌, List, Option, Some, None}
use Rattle.rs_octets.specs.Prefixes.{Prefix, IsIpv4Prefix}
use Rattle.rs_attrs.specs.Meaning.{Attribute}
use Rattle.rs_page_parts.specs.Keys.{key_of}

-- the route with the least prefix of those whose numbers are at least this one, or that there is none
pub data IsFirst (table : Prefix → Option (List Attribute)) (at : ℕ) : Option (Prefix × List Attribute) → Type 0 where
  Least : (p : Prefix) (m : List Attribute) → at ≤ key_of p → table p ≡ Some m → ((q : Prefix) → IsIpv4Prefix q → at ≤ key_of q → key_of q < key_of p → table q ≡ None) → IsFirst table at (Some (p, m))
  Empty : ((q : Prefix) → IsIpv4Prefix q → at ≤ key_of q → table q ≡ None) → IsFirst table at None
