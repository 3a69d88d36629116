-- Prefixes from one on, in prefix order, and the routes of listed prefixes.
use Rattle.std.specs.Prelude.{ℕ, Bool, List, Option, option_map}
use Rattle.std.specs.List.{filter_map}
use Rattle.std.specs.Ordering.{is_le}
use Rattle.rs_octets.specs.Prefixes.{Prefix, prefix_order}
use Rattle.rs_attrs.specs.Meaning.{Attribute}

-- whether p is not before the prefix `from`
abbrev pub is_from : Prefix → Prefix → Bool
is_from from p = is_le (prefix_order from p)

-- what is held of these prefixes, each beside its attributes
abbrev pub routes_held : (Prefix → Option (List Attribute)) → List (Prefix × ℕ) → List (Prefix × List Attribute)
routes_held held es = filter_map (λ e. option_map (λ m. (e.0, m)) (held e.0)) es
