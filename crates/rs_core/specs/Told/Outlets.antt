-- What an outlet says to its client, by what was heard of the client.
use Rattle.std.specs.Prelude.{◌≡◌, ◌≢◌, ◌<◌, ℕ, Bool, true, false, List, ◌++◌, Option, Some, None, slice_get, if◌then◌else◌}
use Rattle.std.specs.FinMap as fin
use Rattle.std.specs.FinSet as set
use Rattle.rs_octets.specs.Prefixes.{Prefix}
use Rattle.rs_attrs.specs.Meaning.{Attribute}
use Rattle.rs_attrs.specs.Effects.{lacks_mandatory}
use Rattle.rs_open.specs.Writing.{server_open}
use Rattle.rs_open.specs.declared.open.Open.{Open}
use Rattle.rs_open.specs.declared.short.Limit.TheVariants as limits
use Rattle.rs_open.specs.declared.writing.ServerOpen.{ServerOpen}
use Rattle.rs_session.specs.declared.act.Act.{Act}
use Rattle.rs_session.specs.declared.act.Act.TheVariants as acts
use Rattle.rs_session.specs.declared.act.State.TheVariants as states
use Rattle.rs_session.specs.declared.session.Session.{Session}
use Rattle.rs_session.specs.declared.settings.Settings.{Settings}
use Rattle.rs_session.specs.Sessions.{state_of, is_live, agreed_of, limit_by, mode_in}
use Rattle.rs_session.specs.Hearing.{Whenever}
use Rattle.rs_policy.specs.Configuration.{Configuration}
use Rattle.rs_outlet.specs.declared.answers.Speech.{Speech}
use Rattle.rs_open.specs.declared.short.Short.{Short}
use Rattle.rs_outlet.specs.Views.{View, WaitsAreExact, flight_after}
use Rattle.rs_core.specs.Session.Hearing.{Hearing, session_in, state_in}
use Rattle.rs_core.specs.Run.Meaning.{speech_in}
use Rattle.rs_core.specs.Told.Telling.{Speaks, limit_to, no_table}
use Rattle.rs_core.specs.Session.Keepalives.{AreKeepalives}
use Rattle.rs_core.specs.Session.Conversations.{Converses, outgoing_of, own_open, update_speech}
use Rattle.rs_core.specs.Ribs.{outlet_in}
use Rattle.rs_core.specs.declared.ribs.Ribs.{Ribs}

-- each route of the Loc-RIB has ORIGIN, AS_PATH and NEXT_HOP, and what waits is what was told otherwise than it is due; the
-- Loc-RIB of a client that isn't Established is empty
pub record IsInOrder (v : View) : Type 0 where
  pub mandatory : (p : Prefix) (m : List Attribute) → fin.get v.loc p ≡ Some m → lacks_mandatory m ≡ false
  pub exact : WaitsAreExact v
  pub down : v.speech ≡ None → v.loc ≡ fin.empty

-- These messages went to a client, and go to it, as its session asks for them; and while it lasts, a KEEPALIVE is due exactly
-- where one fell due since the last message began.
pub record Talks (s : Configuration) (c : ℕ) (h : Hearing) (v : View) : Type 0 where
  pub messages : Converses (session_in s c) (own_open s) h.items h.taken (outgoing_of v)
  pub keepalives : is_live (state_in s c h) ≡ true → AreKeepalives (own_open s) (limit_to (update_speech (session_in s c) h.items)) h.keepalives (h.taken ++ v.flight) v.keepalive_due

-- An Established client is spoken to as its OPEN asks, and the octets taken and in flight mean what it was told. Before, while
-- the session lasts, no UPDATE is among them, and no NOTIFICATION waits.
pub record SpeaksTo (s : Configuration) (c : ℕ) (h : Hearing) (v : View) : Type 0 where
  pub speech : v.speech ≡ speech_in s c h
  pub quiet : is_live (state_in s c h) ≡ true → v.note ≡ None
  pub before : is_live (state_in s c h) ≡ true → v.speech ≡ None → (speech : Speech) → Speaks speech (h.taken ++ v.flight) no_table
  pub since : (speech : Speech) → v.speech ≡ Some speech → Speaks speech (h.taken ++ v.flight) (fin.get v.told)
  pub order : IsInOrder v
  pub talk : Talks s c h v

-- ---- how an outlet changes

-- a KEEPALIVE fell due, prefixes were touched, or a turn was refused
pub record SaysTheSame (v w : View) : Type 0 where
  pub is : w ≡ record v { keepalive_due = w.keepalive_due; touched = w.touched; stale = w.stale; numbers = w.numbers; last = w.last }

-- a KEEPALIVE fell due
pub record IsDue (v w : View) : Type 0 where
  pub is : w ≡ record v { keepalive_due = true }

-- prefixes were touched
pub record IsLeftAlone (v w : View) : Type 0 where
  pub is : w ≡ record v { touched = w.touched; stale = w.stale; numbers = w.numbers }

-- what a client was told goes, and it is spoken to like this
pub record HasComeUp (agreed : Option Speech) (v w : View) : Type 0 where
  pub speech : w.speech ≡ agreed
  pub flight : w.flight ≡ v.flight
  pub note : w.note ≡ v.note
  pub keepalive_due : w.keepalive_due ≡ v.keepalive_due
  pub loc : (p : Prefix) → fin.get w.loc p ≡ None
  pub told : (p : Prefix) → fin.get w.told p ≡ None
  pub marked : (p : Prefix) → set.contains w.marked p ≡ false
  pub touched : w.touched ≡ None
  pub order : IsInOrder w

-- nothing is told any more
pub record IsSilent (v : View) : Type 0 where
  pub speech : v.speech ≡ None
  pub order : IsInOrder v

-- the session has ended, with this NOTIFICATION or with none
pub record IsFinished (note : Option Short) (v w : View) : Type 0 where
  pub speech : w.speech ≡ None
  pub order : IsInOrder w
  pub out : outgoing_of w ≡ record { flight = flight_after note v.flight; note = note; keepalive_due = false }

-- what was told stays
pub record TellsTheSame (v w : View) : Type 0 where
  pub speech : w.speech ≡ v.speech
  pub flight : w.flight ≡ v.flight
  pub note : w.note ≡ v.note
  pub loc : w.loc ≡ v.loc
  pub told : w.told ≡ v.told
  pub order : IsInOrder v → IsInOrder w

-- what was told stays, and just that is to be told again
pub record TellsAgain (v w : View) : Type 0 where
  pub speech : w.speech ≡ v.speech
  pub flight : w.flight ≡ v.flight
  pub note : w.note ≡ v.note
  pub keepalive_due : w.keepalive_due ≡ v.keepalive_due
  pub loc : w.loc ≡ v.loc
  pub told : w.told ≡ v.told
  pub marked : (p : Prefix) → set.contains w.marked p ≡ fin.contains_key v.told p
  pub touched : w.touched ≡ v.touched
  pub order : IsInOrder v → IsInOrder w

-- this OPEN is in flight, and nothing else
pub record IsGreeting (said : ServerOpen) (v : View) : Type 0 where
  pub flight : v.flight ≡ server_open said
  pub note : v.note ≡ None
  pub keepalive_due : v.keepalive_due ≡ false
  pub silent : IsSilent v

-- the outlets of the others are left alone
abbrev pub LeavesOthersAlone : ℕ → Ribs → Ribs → Type 0
LeavesOthersAlone c old new = (d : ℕ) (none : View) → d < old.count → d ≢ c → IsLeftAlone (outlet_in old d none) (outlet_in new d none)

-- and so does its own
pub record TouchesOthers (c : ℕ) (old new : Ribs) : Type 0 where
  pub own : (none : View) → outlet_in new c none ≡ outlet_in old c none
  pub others : LeavesOthersAlone c old new

-- by its OPEN, in long messages only where the outlet has room for them
abbrev pub speech_within : Bool → Settings → Option Open → Option Speech
speech_within long settings None = None
speech_within long settings (Some sent) = Some (record { mode = mode_in sent.four; limit = if long then limit_by settings.extended (Some sent) else limits.Short })

-- what is done to the outlet of a client as its session asks for it
abbrev pub ActsOnOutlet : Act → Bool → ℕ → List Session → View → View → Type 0
ActsOnOutlet acts.None long c sessions v w = w ≡ v
ActsOnOutlet (acts.Say message) long c sessions v w = IsDue v w
ActsOnOutlet acts.Up long c sessions v w =
    (x : Session) → slice_get sessions c ≡ Some x
    → Whenever x (λ settings items. state_of settings items ≡ states.Established → HasComeUp (speech_within long settings (agreed_of settings items)) v w)
ActsOnOutlet (acts.Down note) long c sessions v w = IsFinished note v w
ActsOnOutlet acts.Again long c sessions v w = TellsAgain v w
