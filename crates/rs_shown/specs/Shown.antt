-- What the window is shown of the core: its tables, by what the run of its moves means.
use Rattle.std.specs.Prelude.{◌≡◌, ◌≤◌, ◌<◌, ℕ, List, map, Option, Some, None, if◌then◌else◌}
use Rattle.rs_octets.specs.Prefixes.{Prefix}
use Rattle.rs_attrs.specs.Meaning.{Attribute}
use Rattle.rs_attrs.specs.declared.mode.Mode.{Mode}
use Rattle.rs_adjin.specs.Listing.{Sent}
use Rattle.rs_open.specs.declared.short.Limit.{Limit}
use Rattle.rs_policy.specs.Configuration.{Configuration}
use Rattle.rs_outlet.specs.declared.answers.Speech.{Speech}
use Rattle.rs_core.specs.Core.{client_count}
use Rattle.rs_core.specs.Run.Agreeing.{Agrees}
use Rattle.rs_core.specs.Run.Candidates.{candidates_in}
use Rattle.rs_core.specs.Run.Meaning.{dues, hearing, is_established, speech_in, table}
use Rattle.rs_core.specs.Run.Moves.{Move, config_in}
use Rattle.rs_core.specs.Told.Points.{latest}
use Rattle.rs_core.specs.declared.route_server.Core.{Core}
use Rattle.rs_page_parts.specs.Firsts.{IsFirst}
use Rattle.rs_page_parts.specs.Holders.{Holding}
use Rattle.rs_page_parts.specs.declared.tables.Rib.{Rib}
use Rattle.rs_page_parts.specs.declared.tables.Rib.TheVariants as ribs

-- the Loc-RIB of a client: what was due to it at its last turn since it is Established
abbrev pub due_last : List Move → ℕ → Prefix → Option (List Attribute)
due_last run c p = if is_established run c then latest (dues run c p) else None

-- a table of a client: its Adj-RIB-In is what its UPDATEs mean
abbrev pub table_after : List Move → Rib → ℕ → Prefix → Option (List Attribute)
table_after run ribs.Received c p = table run c p
table_after run ribs.Sent c p = due_last run c p

-- the first route of a client's table from a number on, or that there is none; none of who is no client
pub record IsFirstOf (core : Core) (rib : Rib) (c : ℕ) (at : ℕ) (route : Option (Prefix × List Attribute)) : Type 0 where
  pub client : (run : List Move) → Agrees core run → c < client_count core → IsFirst (table_after run rib c) at route
  pub other : client_count core ≤ c → route ≡ None

-- the configuration that was accepted last
abbrev pub IsConfigured : Core → Configuration → Type 0
IsConfigured core config = (run : List Move) → Agrees core run → config ≡ config_in run

abbrev pub holding_of : Sent → Holding
holding_of s = record { member = s.client; identifier = s.identifier; attributes = s.attrs }

-- the routes for a prefix, each with its client and the BGP Identifier of the client's session, by rising client
abbrev pub AreHeld : Core → Prefix → List Holding → Type 0
AreHeld core p held = (run : List Move) → Agrees core run → held ≡ map holding_of (candidates_in run p)

-- how a client is spoken to, where it has a mode and a limit
abbrev pub speech_with : Option Mode → Option Limit → Option Speech
speech_with (Some mode) (Some limit) = Some (record { mode = mode; limit = limit })
speech_with (Some mode) None = None
speech_with None limit = None

-- how a client is spoken to while it is Established: what is due to it fits into a message so; who isn't, or is no client, in no way
pub record IsSpokenTo (core : Core) (c : ℕ) (speech : Option Speech) : Type 0 where
  pub client : (run : List Move) → Agrees core run → c < client_count core → speech ≡ speech_in (config_in run) c (hearing c run)
  pub other : client_count core ≤ c → speech ≡ None
