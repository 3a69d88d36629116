-- What the parts of a call do for one client.
use Rattle.std.specs.Prelude.{◌≡◌, ◌≢◌, ◌≤◌, ◌⊎◌, ◌&&◌, ℕ, true, false, List, [], ◌∷◌, ◌++◌, length, Option, Some, None, IsSome, slice_get, if◌then◌else◌}
use Rattle.std.specs.List.{cons_option}
use Rattle.std.specs.Global.{Vec}
use Rattle.rs_octets.specs.declared.heads.Allowed.{Allowed}
use Rattle.rs_octets.specs.declared.heads.Kind.{Kind}
use Rattle.rs_octets.specs.Fronts.{Wants}
use Rattle.rs_octets.specs.Messages.{newly_heard, rest_of}
use Rattle.rs_attrs.specs.Meaning.{Attribute}
use Rattle.rs_attrs.specs.Effects.{Change, has_prefix}
use Rattle.rs_update.specs.Laws.{IsSameChange}
use Rattle.rs_session.specs.Sessions.{act_of, is_live, is_request}
use Rattle.rs_core.specs.Others.{KeepsOthers}
use Rattle.rs_core.specs.Session.Keepalives.{asks_for_keepalive, fell_if}
use Rattle.rs_core.specs.Told.Points.{asked_if}
use Rattle.rs_core.specs.Session.OperatorRecords.{ending_by, no_faults}
use Rattle.rs_outlet.specs.Views.{View}
use Rattle.rs_core.specs.Ribs.{outlet_in, TouchesOthersAtChange}
use Rattle.rs_core.specs.Told.Outlets.{TouchesOthers}
use Rattle.rs_core.specs.Touched.Touches.{KeepsTouches}
use Rattle.rs_core.specs.Run.Agreeing.{Knows, IsCutShort, Waits}
use Rattle.rs_core.specs.declared.route_server.Core.{Core}
use Rattle.rs_session.specs.declared.heard.Heard.{Heard}
use Rattle.rs_session.specs.declared.act.Act.{Act}
use Rattle.rs_session.specs.declared.act.Act.TheVariants as acts
use Rattle.rs_session.specs.declared.act.State.TheVariants as states
use Rattle.rs_session.specs.declared.session.Session.{Session}
use Rattle.rs_session.specs.Items as items
use Rattle.rs_session.specs.Items.{Item, Message}
use Rattle.rs_session.specs.Sessions.{state_of, agreed_identifier}
use Rattle.rs_session.specs.Hearing.{HasHeard, Whenever}
use Rattle.rs_adjin.specs.AdjIns.{held_of, identifier_of, Begins}
use Rattle.rs_octets.specs.Prefixes.{Prefix}
use Rattle.rs_adjin.specs.declared.adj_ins.AdjIns.{AdjIns}
use Rattle.rs_policy.specs.Configuration.{Configuration}
use Rattle.rs_core.specs.Session.Hearing.{Hearing, allowed_in, session_in, state_in, is_up, table_in, changing, body_said, takes_in, hears}

-- the value of client c is v, and those of the others are what they were
pub record SetsAt {X : Type 0} (c : ℕ) (v : X) (old new : List X) : Type 0 where
  pub own : (x : X) → slice_get new c ≡ Some x → x ≡ v
  pub others : KeepsOthers c old new

-- one message more was heard, with this body where it is a NOTIFICATION, which changed nothing, or ends the session
pub record Follows (s : Configuration) (c : ℕ) (message : Heard) (notice : List ℕ) (h next : Hearing) : Type 0 where
  pub items : next.items ≡ items.Message message ∷ h.items
  pub taken : next.taken ≡ h.taken
  pub points : next.points ≡ asked_if (is_up (state_in s c h) && is_request message) h.points
  pub keepalives : next.keepalives ≡ fell_if (asks_for_keepalive (act_of (session_in s c) (Message message) h.items)) h.keepalives
  pub endings : next.endings ≡ cons_option (ending_by notice (act_of (session_in s c) (Message message) h.items)) h.endings
  pub faults : next.faults ≡ h.faults
  pub fresh : is_up (state_in s c h) ≡ false → next.changes ≡ []
  pub same : is_up (state_in s c h) ≡ true → is_up (state_in s c next) ≡ true → next.changes ≡ h.changes

-- what the other clients hold and are known by is what it was
pub record IsSpared (c : ℕ) (old new : AdjIns) : Type 0 where
  pub held : (d : ℕ) (p : Prefix) → d ≢ c → held_of new d p ≡ held_of old d p
  pub identifiers : (d : ℕ) → d ≢ c → identifier_of new d ≡ identifier_of old d

-- what is done to the Adj-RIBs-In as a session asks for it: a client that comes up holds nothing and has the BGP Identifier
-- of its OPEN, and one whose session has ended holds nothing
abbrev pub ActsOn : Act → ℕ → List Session → AdjIns → AdjIns → Type 0
ActsOn acts.None c sessions old new = new ≡ old
ActsOn (acts.Say message) c sessions old new = new ≡ old
ActsOn acts.Up c sessions old new =
    (x : Session) → slice_get sessions c ≡ Some x
    → Whenever x (λ settings items. state_of settings items ≡ states.Established → Begins old new c (agreed_identifier settings items))
ActsOn (acts.Down _) c sessions old new = Begins old new c 0
ActsOn acts.Again c sessions old new = new ≡ old

-- the sessions of clients with this configuration, before anything came from them
abbrev pub HaveHeardNothing : Configuration → List Session → Type 0
HaveHeardNothing s sessions = (c : ℕ) (x : Session) → slice_get sessions c ≡ Some x → HasHeard x (session_in s c) []

-- ---- messages

-- a session that lasts hears a message of this type with this body
abbrev pub Hears : Kind → List ℕ → ℕ → Core → Core → Type 0
Hears kind body c old new =
    (s : Configuration) (h : Hearing) → old.ribs.config ≡ s → is_live (state_in s c h) ≡ true → Knows old s c h
    → Knows new s c (takes_in s c (body_said s c h kind body) h)

-- memory was refused in the midst
abbrev pub CutsShort : ℕ → Core → Core → Type 0
CutsShort c old new = (s : Configuration) (h : Hearing) → Knows old s c h → IsCutShort new s c h

-- memory was refused in the midst of a message of this type with this body: the client has another value than before only where the
-- whole message gives it one
abbrev pub AltersWithin : Kind → List ℕ → ℕ → Core → Core → Type 0
AltersWithin kind body c old new =
    (s : Configuration) (h : Hearing) → old.ribs.config ≡ s → is_live (state_in s c h) ≡ true → Knows old s c h
    → (p : Prefix) → held_of new.ribs.tables c p ≢ held_of old.ribs.tables c p → table_in s c (takes_in s c (body_said s c h kind body) h) p ≢ table_in s c h p

-- what is touched for the client itself is kept, where its session heard this before
abbrev pub KeepsOwnTouches : ℕ → Core → Core → Type 0
KeepsOwnTouches c old new = (s : Configuration) (h : Hearing) → old.ribs.config ≡ s → Knows old s c h → (none : View) → KeepsTouches (outlet_in old.ribs c none) (outlet_in new.ribs c none)

-- the change withdraws and announces these, and announces with attributes
pub record IsAnnouncing (withdrawn announced : List Prefix) (change : Change) : Type 0 where
  pub withdrawn_are : (p : Prefix) → has_prefix p change.withdrawn ≡ has_prefix p withdrawn
  pub announced_are : (p : Prefix) → has_prefix p change.announced ≡ has_prefix p announced
  pub with_attributes : (p : Prefix) → has_prefix p announced ≡ true → IsSome change.attributes

-- each of these prefixes has w at client c, and each other one what it had
pub record HasOverlaid (c : ℕ) (prefixes : List Prefix) (w : Option (List Attribute)) (old new : AdjIns) : Type 0 where
  pub held : (p : Prefix) → held_of new c p ≡ (if has_prefix p prefixes then w else held_of old c p)
  pub identifier : identifier_of new c ≡ identifier_of old c

-- some of these prefixes have w at client c, and each other one what it had
pub record HasOverlaidSome (c : ℕ) (prefixes : List Prefix) (w : Option (List Attribute)) (old new : AdjIns) : Type 0 where
  pub held : (p : Prefix) → (held_of new c p ≡ held_of old c p) ⊎ ((has_prefix p prefixes ≡ true) × (held_of new c p ≡ w))

-- only the routes of client c change, and what is touched for the others by that
pub record ChangesRoutes (c : ℕ) (old new : Core) : Type 0 where
  pub count : new.count ≡ old.count
  pub sessions : new.sessions ≡ old.sessions
  pub buffers : new.buffers ≡ old.buffers
  pub watched : new.watched ≡ old.watched
  pub config : new.ribs.config ≡ old.ribs.config
  pub others : IsSpared c old.ribs.tables new.ribs.tables
  pub touched : TouchesOthers c old.ribs new.ribs
  pub others_touched : TouchesOthersAtChange c old.ribs new.ribs

-- an Established session takes an UPDATE that is the same change
abbrev pub Changes : ℕ → List Prefix → List Prefix → Option (List Attribute) → Core → Core → Type 0
Changes c withdrawn announced attributes old new =
    (s : Configuration) (h : Hearing) (change : Change) → is_live (state_in s c h) ≡ true → Knows old s c h
    → IsSameChange (record { withdrawn = withdrawn; announced = announced; attributes = attributes }) change
    → Knows new s c (takes_in s c (changing None change no_faults) h)

-- memory was refused in the midst of it: the client has another value than before only where the whole change gives it one
abbrev pub ChangesWithin : ℕ → List Prefix → List Prefix → Option (List Attribute) → Core → Core → Type 0
ChangesWithin c withdrawn announced attributes old new =
    (s : Configuration) (h : Hearing) (change : Change) → is_live (state_in s c h) ≡ true → Knows old s c h
    → IsSameChange (record { withdrawn = withdrawn; announced = announced; attributes = attributes }) change
    → (p : Prefix) → held_of new.ribs.tables c p ≢ held_of old.ribs.tables c p → table_in s c (takes_in s c (changing None change no_faults) h) p ≢ table_in s c h p

-- ---- pieces

-- the last octets that were appended to others were wanted there
pub record IsWanted (allowed : Allowed) (octets : List ℕ) : Type 0 where
  pub before : List ℕ
  pub last : List ℕ
  pub n : ℕ
  pub whole : octets ≡ before ++ last
  pub wants : Wants allowed before n
  pub within : length last ≤ n

-- the front of a piece was appended to what waited: as much as was wanted, or all of the piece
pub record FillsUp (allowed : Allowed) (old piece new rest : List ℕ) : Type 0 where
  pub front : List ℕ
  pub whole : piece ≡ front ++ rest
  pub behind : new ≡ old ++ front
  pub wanted : (front ≡ []) ⊎ IsWanted allowed new
  pub enough : (rest ≡ []) ⊎ ((n : ℕ) → Wants allowed new n → ⊥)

-- between two messages of a client: nothing waits
pub record IsBetween (core : Core) (s : Configuration) (c : ℕ) (h : Hearing) : Type 0 where
  pub knows : Knows core s c h
  pub rest : is_live (state_in s c h) ≡ true → rest_of (allowed_in s) h.octets ≡ []
  pub empty : is_live (state_in s c h) ≡ true → (x : Vec ℕ) → slice_get core.buffers.items c ≡ Some x → x.items ≡ []

-- The front of the piece was processed; it contains at most one whole message; `rest` is what remains of the piece, and `buffer`
-- what waits now: nothing where the piece has more.
pub record HasHeardFront (core : Core) (s : Configuration) (c : ℕ) (h : Hearing) (piece buffer rest : List ℕ) : Type 0 where
  pub front : List ℕ
  pub whole : piece ≡ front ++ rest
  pub once : length (newly_heard (allowed_in s) h.octets front) ≤ 1
  pub knows : Knows core s c (hears s c front h)
  pub waits : Waits s c buffer (hears s c front h)
  pub all : (rest ≡ []) ⊎ (buffer ≡ [])
