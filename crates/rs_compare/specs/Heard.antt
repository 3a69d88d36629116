-- The table that was sent.
use Rattle.std.specs.Prelude.{◌≡◌, T, List, Option, option_map}
use Rattle.std.specs.Arc.{arc_value}
use Rattle.std.specs.BTreeMap.{get}
use Rattle.std.specs.FinMap.{find, is_sorted}
use Rattle.rs_octets.specs.Prefixes.{Prefix, prefix_order}
use Rattle.rs_attrs.specs.Meaning.{Attribute}
use Rattle.rs_compare.specs.declared.heard.Sent.{Sent}

abbrev pub table_in : Sent → Prefix → Option (List Attribute)
table_in sent p = option_map arc_value (get prefix_order sent.routes p)

-- the routes are those of a table, by rising prefix
pub record Lists (routes : List (Prefix × List Attribute)) (table : Prefix → Option (List Attribute)) : Type 0 where
  pub rising : T (is_sorted prefix_order routes)
  pub each : (p : Prefix) → find prefix_order p routes ≡ table p
