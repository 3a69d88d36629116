-- Where a table that was sent differs from the one that is due.
use Rattle.std.specs.Prelude.{◌≡◌, T, List, [], map, Option, Some, None, ◌↔◌, if◌then◌else◌}
use Rattle.std.specs.Arc.{arc_value}
use Rattle.std.specs.FinMap.{find, is_sorted}
use Rattle.rs_octets.specs.Prefixes.{Prefix, prefix_order}
use Rattle.rs_attrs.specs.Meaning.{Attribute}
use Rattle.rs_attrs.specs.Comparing.{same_attributes}
use Rattle.rs_compare.specs.declared.routes.Route.{Route}
use Rattle.rs_compare.specs.declared.compared.Difference.{Difference}
use Rattle.rs_compare.specs.declared.compared.Kind.{Kind}
use Rattle.rs_compare.specs.declared.compared.Kind.TheVariants as kinds

abbrev pub entries_of : List Route → List (Prefix × List Attribute)
entries_of routes = map (λ route. (route.prefix, arc_value route.attrs)) routes

-- the table that a list of routes by rising prefix is
abbrev pub listed_at : List (Prefix × List Attribute) → Prefix → Option (List Attribute)
listed_at routes p = find prefix_order p routes

abbrev pub reports_of : List Difference → List (Prefix × Kind)
reports_of found = map (λ difference. (difference.prefix, difference.kind)) found

-- how what was sent at a prefix, if anything, differs from what is due there, if anything
abbrev pub kind_of : Option (List Attribute) → Option (List Attribute) → Option Kind
kind_of None None = None
kind_of (Some due) None = Some kinds.Missing
kind_of None (Some sent) = Some kinds.NotDue
kind_of (Some due) (Some sent) = if same_attributes due sent then None else Some kinds.OtherAttributes

-- What is reported: by rising prefix, so each once; and at each prefix just how the two tables differ there.
pub record AreDifferences (due sent : Prefix → Option (List Attribute)) (found : List (Prefix × Kind)) : Type 0 where
  pub rising : T (is_sorted prefix_order found)
  pub exact : (p : Prefix) → find prefix_order p found ≡ kind_of (due p) (sent p)

-- nothing is reported of tables that are equal at each prefix, and of no others
abbrev pub EqualTablesDoNotDiffer : Type 0
EqualTablesDoNotDiffer =
    (due sent : Prefix → Option (List Attribute)) (found : List (Prefix × Kind)) → AreDifferences due sent found → (found ≡ []) ↔ ((p : Prefix) → due p ≡ sent p)
