-- How what a line says becomes an event for the core, behind the octets of a text of rules.
use Rattle.std.specs.Prelude.{◌≡◌, ℕ, List, [], ◌∷◌, Option, Some, None, Result, Ok, Err, ⊤}
use Rattle.rs_core.specs.declared.links.Event.{Event}
use Rattle.rs_core.specs.Drives.Steps as links
use Rattle.rs_trace.specs.declared.fault.ReplayFault.TheVariants.{Line, Memory, Reading, Writing}
use Rattle.rs_trace.specs.declared.fault.Stop.{Stop}
use Rattle.rs_trace.specs.declared.fault.Stop.TheVariants.{End, Table, Fault}
use Rattle.rs_trace.specs.Trace.{LineMeaning, Listed}
use Rattle.rs_trace.specs.Text.{asks, joined}
use Rattle.rs_trace.specs.Played.{meaning_of_event}

-- Line n, which says this behind the octets of a text, comes to this event, or to none, or to a stop; then these octets go on, and
-- the text of rules that came last is this one.
abbrev pub TakesUp : List ℕ → Option LineMeaning → ℕ → List ℕ → Result (Option Event) Stop → List ℕ → List ℕ → Type 0
TakesUp text meant n piece (Ok None) on rules = joined text meant ≡ asks None on
TakesUp text meant n piece (Ok (Some event)) on rules =
    (asked : LineMeaning) × (joined text meant ≡ asks (Some asked) on) × (meaning_of_event event (links.octets_of event piece rules) ≡ asked ∷ [])
TakesUp text meant n piece (Err (Table c)) on rules = joined text meant ≡ asks (Some (Listed c)) on
TakesUp text meant n piece (Err (Fault (Line m fault))) on rules = (m ≡ n) × (joined text meant ≡ Err fault)
TakesUp text meant n piece (Err (Fault Memory)) on rules = ⊤
TakesUp text meant n piece (Err (Fault Reading)) on rules = ⊥
TakesUp text meant n piece (Err (Fault Writing)) on rules = ⊥
TakesUp text meant n piece (Err End) on rules = ⊥
