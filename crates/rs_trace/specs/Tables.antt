-- What a line `table` asks for: the routes of a client's Loc-RIB, a line for each.
use Rattle.std.specs.Prelude.{◌≡◌, ℕ, ◌<◌, T, List, [], Option, Some, None}
use Rattle.std.specs.List.{flat_map}
use Rattle.std.specs.FinMap.{find, is_sorted}
use Rattle.rs_octets.specs.Prefixes.{Prefix, prefix_order}
use Rattle.rs_attrs.specs.declared.mode.Mode.{Mode}
use Rattle.rs_attrs.specs.Meaning.{Attribute}
use Rattle.rs_attrs.specs.Writing.{spelt}
use Rattle.rs_core.specs.Run.Moves.{Move, config_in}
use Rattle.rs_core.specs.Session.Hearing.{mode_in}
use Rattle.rs_core.specs.Told.Points.{latest}
use Rattle.rs_core.specs.Run.Meaning.{hearing, dues}
use Rattle.rs_trace.specs.Output.{route_line}

-- A client's Loc-RIB after a run (RFC 4271, 3.2; RFC 7947, 2.3): what was due to it at its last turn since it is Established, by
-- rising prefix; nothing before the first.
pub record IsLocRib (run : List Move) (c : ℕ) (routes : List (Prefix × List Attribute)) : Type 0 where
  pub rising : T (is_sorted prefix_order routes)
  pub due : (p : Prefix) → find prefix_order p routes ≡ latest (dues run c p)

-- the line of a route, its attributes spelt as in UPDATEs of this kind
abbrev pub line_of_route : List ℕ → Mode → Prefix × List Attribute → List ℕ
line_of_route name mode route = route_line name route.0 (spelt route.1 mode)

abbrev pub ListsAs : List Move → ℕ → List ℕ → List ℕ → Option Mode → Type 0
ListsAs run c name listed_lines None = listed_lines ≡ []
ListsAs run c name listed_lines (Some mode) = (routes : List (Prefix × List Attribute)) × IsLocRib run c routes × (listed_lines ≡ flat_map (line_of_route name mode) routes)

-- the lines of a client's Loc-RIB after a run, its attributes spelt as in the client's UPDATEs; none while it isn't Established
abbrev pub ListsLocRib : List Move → ℕ → List ℕ → List ℕ → Type 0
ListsLocRib run c name listed_lines = ListsAs run c name listed_lines (mode_in (config_in run) c (hearing c run))

-- the same of one of the first n clients
abbrev pub ListsOf : ℕ → List Move → ℕ → List ℕ → List ℕ → Type 0
ListsOf n run c name listed_lines = c < n → ListsLocRib run c name listed_lines
