-- A route server that agrees with a run: what it holds is what the run means.
use Rattle.std.specs.Prelude.{◌≡◌, ◌≢◌, ◌<◌, ℕ, true, List, [], ◌∷◌, Some, slice_get}
use Rattle.std.specs.Global.{Vec}
use Rattle.rs_octets.specs.Messages.{rest_of, header_fault_of}
use Rattle.rs_octets.specs.Prefixes.{Prefix}
use Rattle.rs_session.specs.declared.session.Session.{Session}
use Rattle.rs_session.specs.Items.{Item, greatest}
use Rattle.rs_session.specs.Sessions.{is_live}
use Rattle.rs_session.specs.Hearing.{HasHeard}
use Rattle.rs_adjin.specs.AdjIns.{held_of, identifier_of}
use Rattle.rs_outlet.specs.Views.{View}
use Rattle.rs_policy.specs.Configuration.{Configuration}
use Rattle.rs_policy.specs.Replacing.{Replaces}
use Rattle.rs_core.specs.Others.{KeepsOthers}
use Rattle.rs_core.specs.Run.Moves.{Move, Ruled, config_in}
use Rattle.rs_core.specs.Session.Hearing.{Hearing, allowed_in, session_in, state_in, identifier_in, table_in}
use Rattle.rs_core.specs.Core.{last_of, touched_for}
use Rattle.rs_core.specs.Run.Meaning.{hearing, is_established}
use Rattle.rs_core.specs.Touched.ByMoves.{IsTouchedBehind}
use Rattle.rs_core.specs.Touched.Answering.{IsLastBehind}
use Rattle.rs_core.specs.Ribs.{outlet_in, KeepsAnswers}
use Rattle.rs_core.specs.Told.Outlets.{SpeaksTo, LeavesOthersAlone}
use Rattle.rs_core.specs.Told.Order.{IsOrdered}
use Rattle.rs_core.specs.Session.OperatorRecords.{IsWatched}
use Rattle.rs_core.specs.declared.route_server.Core.{Core}

-- ---- one client

-- its session has heard this, its Adj-RIB-In has what that means, its outlet says what agrees with it, in order, and this is kept
-- for the operator
pub record Knows (core : Core) (s : Configuration) (c : ℕ) (h : Hearing) : Type 0 where
  pub session : (x : Session) → slice_get core.sessions.items c ≡ Some x → HasHeard x (session_in s c) h.items
  pub table : (p : Prefix) → held_of core.ribs.tables c p ≡ table_in s c h p
  pub identifier : identifier_of core.ribs.tables c ≡ identifier_in s c h
  pub outlet : core.ribs.config ≡ s → (none : View) → SpeaksTo s c h (outlet_in core.ribs c none)
  pub ordered : core.ribs.config ≡ s → (none : View) → IsOrdered s c h (outlet_in core.ribs c none)
  pub watched : IsWatched core.watched.items c h.endings h.faults

-- while the session lasts, what waits is what the cut leaves of the octets, and its header, as far as it is there, is good
pub record Waits (s : Configuration) (c : ℕ) (buffer : List ℕ) (h : Hearing) : Type 0 where
  pub rest : is_live (state_in s c h) ≡ true → buffer ≡ rest_of (allowed_in s) h.octets
  pub good : is_live (state_in s c h) ≡ true → header_fault_of (allowed_in s) (rest_of (allowed_in s) h.octets) ≡ []

pub record AgreesAt (core : Core) (s : Configuration) (c : ℕ) (h : Hearing) : Type 0 where
  pub knows : Knows core s c h
  pub waits : (x : Vec ℕ) → slice_get core.buffers.items c ≡ Some x → Waits s c x.items h

-- of what it heard only the greatest moment counts: memory was refused in the midst of a piece
pub record IsCutShort (core : Core) (s : Configuration) (c : ℕ) (h : Hearing) : Type 0 where
  pub items : List Item
  pub moment : greatest items ≡ greatest h.items
  pub session : (x : Session) → slice_get core.sessions.items c ≡ Some x → HasHeard x (session_in s c) items

-- ---- all clients

pub record Agrees (core : Core) (run : List Move) : Type 0 where
  pub config : core.ribs.config ≡ config_in run
  pub clients : (c : ℕ) → c < core.count → AgreesAt core (config_in run) c (hearing c run)
  pub touched : (c : ℕ) → c < core.count → is_established run c ≡ true → IsTouchedBehind run c (touched_for core c)
  pub last : (c : ℕ) → c < core.count → IsLastBehind run c (last_of core c)

-- it agrees with the run grown by the configuration that octets are, which may replace the one before
pub record IsRuled (octets : List ℕ) (core : Core) (run : List Move) : Type 0 where
  pub config : Configuration
  pub replaces : Replaces (config_in run) octets config
  pub agrees : Agrees core (Ruled config ∷ run)

-- whatever belongs to another client is what it was, but for touches, and so are the configuration and what the last turn of each
-- client answered
pub record Spares (c : ℕ) (old new : Core) : Type 0 where
  pub count : new.count ≡ old.count
  pub config : new.ribs.config ≡ old.ribs.config
  pub sessions : KeepsOthers c old.sessions.items new.sessions.items
  pub buffers : KeepsOthers c old.buffers.items new.buffers.items
  pub held : (d : ℕ) (p : Prefix) → d ≢ c → held_of new.ribs.tables d p ≡ held_of old.ribs.tables d p
  pub identifiers : (d : ℕ) → d ≢ c → identifier_of new.ribs.tables d ≡ identifier_of old.ribs.tables d
  pub others_alone : LeavesOthersAlone c old.ribs new.ribs
  pub watched : KeepsOthers c old.watched.items new.watched.items
  pub answers : KeepsAnswers old.ribs new.ribs
