-- What a client's octets mean: what its session heard (RFC 4271, 8), and what its UPDATEs changed (RFC 4271, 4.3; RFC 7606).
use Rattle.std.specs.Prelude.{ℕ, Bool, true, false, ◌&&◌, List, [], ◌∷◌, ◌++◌, length, filter, take, is_some, nat_lt, Option, Some, None, Result, Ok, Err, if◌then◌else◌}
use Rattle.std.specs.List.{flat_map, cons_option}
use Rattle.rs_octets.specs.declared.heads.Allowed.{Allowed}
use Rattle.rs_octets.specs.declared.heads.Kind.{Kind}
use Rattle.rs_octets.specs.declared.heads.Kind.TheVariants as kinds
use Rattle.rs_octets.specs.declared.heads.Head.{Head}
use Rattle.rs_octets.specs.declared.heads.HeaderFault.{HeaderFault}
use Rattle.rs_octets.specs.Headers.{header_of}
use Rattle.rs_octets.specs.Messages.{body_of, newly_heard}
use Rattle.rs_octets.specs.declared.notification.Notification.TheVariants as names
use Rattle.rs_octets.specs.Names.{codes_named}
use Rattle.rs_octets.specs.Prefixes.{Prefix}
use Rattle.rs_attrs.specs.declared.mode.Mode.{Mode}
use Rattle.rs_attrs.specs.Meaning.{Attribute}
use Rattle.rs_attrs.specs.Effects.{Effect, Reset, Changes, Change, Fields, effect_of, fields_of, faulted_in, table_since, once}
use Rattle.rs_attrs.specs.declared.faults.Faulted.{Faulted}
use Rattle.rs_open.specs.Opens.{open_of}
use Rattle.rs_open.specs.Refreshes.{family_of}
use Rattle.rs_open.specs.declared.refresh.AddressFamily.{AddressFamily}
use Rattle.rs_open.specs.declared.short.Limit.{Limit}
use Rattle.rs_session.specs.declared.command.Command.{Command}
use Rattle.rs_session.specs.declared.heard.Heard.{Heard}
use Rattle.rs_session.specs.declared.heard.Heard.TheVariants as heard
use Rattle.rs_session.specs.declared.act.State.{State}
use Rattle.rs_session.specs.declared.act.State.TheVariants as states
use Rattle.rs_session.specs.declared.settings.Settings.{Settings}
use Rattle.rs_session.specs.Items as items
use Rattle.rs_session.specs.Items.{Item}
use Rattle.rs_session.specs.Sessions.{act_of, state_of, is_live, is_request, is_refresh, agreed_hold, agreed_mode, agreed_limit, agreed_identifier}
use Rattle.rs_policy.specs.Configuration.{Configuration, client_of}
use Rattle.rs_core.specs.Session.Keepalives.{KeepaliveMove, Begun, asks_for_keepalive, fell_if}
use Rattle.rs_core.specs.Told.Points.{Point, Value, Decided, Offered, asked_if}
use Rattle.rs_core.specs.Session.OperatorRecords.{ending_by, expiry_by, command_ending, ended_if, no_faults, with_faults, newest_ending, faulted_by}
use Rattle.rs_core.specs.declared.endings.Ending.{Ending}
use Rattle.rs_core.specs.declared.endings.FaultedUpdates.{FaultedUpdates}

-- ---- what is configured of a client's session

-- what a header from a client may say (RFC 8654, 4; RFC 2918, 3)
abbrev pub allowed_in : Configuration → Allowed
allowed_in s = record { long = s.top.extended; refresh = s.top.refresh }

abbrev pub session_in : Configuration → ℕ → Settings
session_in s c = record { peer_as = (client_of s c).client_as; hold = s.top.hold; extended = s.top.extended }

-- ---- one client

-- the octets since its connection came; what befell its session, the newest first; what its UPDATEs changed since it is
-- Established, the newest first; the octets that its link took of us since its connection came; what befell it since then that
-- decides what it is told, the newest first, and what decides when it is sent KEEPALIVEs; and over all its connections, the newest
-- first, why its sessions ended, and what was wrong with those of its UPDATEs that were not taken as they came
pub record Hearing : Type 0 where
  pub octets : List ℕ
  pub items : List Item
  pub changes : List Change
  pub taken : List ℕ
  pub points : List Point
  pub keepalives : List KeepaliveMove
  pub endings : List Ending
  pub faults : List Faulted

abbrev pub silence : Hearing
silence = record { octets = []; items = []; changes = []; taken = []; points = []; keepalives = []; endings = []; faults = [] }

abbrev pub state_in : Configuration → ℕ → Hearing → State
state_in s c h = state_of (session_in s c) h.items

abbrev pub is_up : State → Bool
is_up states.Idle = false
is_up states.OpenSent = false
is_up states.OpenConfirm = false
is_up states.Established = true
is_up states.Closing = false

abbrev pub is_closing : State → Bool
is_closing states.Idle = false
is_closing states.OpenSent = false
is_closing states.OpenConfirm = false
is_closing states.Established = false
is_closing states.Closing = true

-- how many octets AS numbers have in the UPDATEs of a client that is Established (RFC 6793, 3)
abbrev pub mode_in : Configuration → ℕ → Hearing → Option Mode
mode_in s c h = if is_up (state_in s c h) then agreed_mode (session_in s c) h.items else None

-- how long a message to a client that is Established may be (RFC 8654, 4)
abbrev pub limit_in : Configuration → ℕ → Hearing → Option Limit
limit_in s c h = if is_up (state_in s c h) then Some (agreed_limit (session_in s c) h.items) else None

-- the Hold Time used with a client that is Established, in seconds; 0 for none (RFC 4271, 4.2)
abbrev pub hold_in : Configuration → ℕ → Hearing → Option ℕ
hold_in s c h = if is_up (state_in s c h) then agreed_hold (session_in s c) h.items else None

-- the BGP Identifier of a client that is Established (RFC 4271, 4.2)
abbrev pub identifier_in : Configuration → ℕ → Hearing → ℕ
identifier_in s c h = if is_up (state_in s c h) then agreed_identifier (session_in s c) h.items else 0

-- what it announced and has not withdrawn, while it is Established: its Adj-RIB-In (RFC 4271, 3.2)
abbrev pub table_in : Configuration → ℕ → Hearing → Prefix → Option (List Attribute)
table_in s c h p = if is_up (state_in s c h) then table_since h.changes p else None

-- why its last session that ended did so
abbrev pub ending_in : Hearing → Option Ending
ending_in h = newest_ending h.endings

-- how many of its UPDATEs were not taken as they came, and what was wrong with the last one
abbrev pub faulted_updates_in : Hearing → FaultedUpdates
faulted_updates_in h = faulted_by h.faults

-- ---- what a message says

-- what a session hears of a message; the body, if it is a NOTIFICATION; and what the message changes, and which of its attributes
-- are at fault or missing, if it is an UPDATE without a session reset
pub record Said : Type 0 where
  pub message : Heard
  pub change : Option Change
  pub notice : List ℕ
  pub faulted : Faulted

abbrev pub without_change : Heard → Said
without_change message = record { message = message; change = None; notice = []; faulted = no_faults }

abbrev pub notified : List ℕ → Said
notified body = record { message = heard.Note; change = None; notice = body; faulted = no_faults }

abbrev pub changing : Option (ℕ × ℕ) → Change → Faulted → Said
changing reset change faulted = record { message = heard.Update reset; change = Some change; notice = []; faulted = faulted }

-- the prefixes that changes leave announced, each once
abbrev pub held_by : List Change → List Prefix
held_by changes = filter (λ p. is_some (table_since changes p)) (once (flat_map (λ change. change.announced) changes))

-- Cease, Maximum Number of Prefixes Reached (RFC 4486, 4), where more prefixes are held than the limit allows
abbrev pub reset_beyond : Option ℕ → List Change → Option (ℕ × ℕ)
reset_beyond None changes = None
reset_beyond (Some limit) changes = if nat_lt limit (length (held_by changes)) then Some (codes_named names.MaximumPrefixesReached) else None

abbrev pub effect_said : Option ℕ → List Change → Faulted → Effect → Said
effect_said limit changes faulted (Reset code sub) = without_change (heard.Update (Some (code, sub)))
effect_said limit changes faulted (Changes change) = changing (reset_beyond limit (change ∷ changes)) change faulted

-- what is wrong with an UPDATE with these fields (RFC 7606, 2 to 4 and 7)
abbrev pub faulted_by_fields : Mode → Option Fields → Faulted
faulted_by_fields mode None = no_faults
faulted_by_fields mode (Some fields) = faulted_in fields mode

-- an UPDATE of a client that isn't Established ends its session, whatever it says (RFC 4271, 6.6)
abbrev pub update_said : Option Mode → Option ℕ → List Change → List ℕ → Said
update_said None limit changes body = without_change (heard.Update None)
update_said (Some mode) limit changes body = effect_said limit changes (faulted_by_fields mode (fields_of body)) (effect_of body mode)

abbrev pub refresh_said : AddressFamily → Heard
refresh_said family = heard.Refresh family.afi family.safi

-- a message of this type with this body
abbrev pub body_said : Configuration → ℕ → Hearing → Kind → List ℕ → Said
body_said s c h kinds.Open body = without_change (heard.Open (open_of body))
body_said s c h kinds.Update body = update_said (mode_in s c h) (client_of s c).limit h.changes body
body_said s c h kinds.Note body = notified body
body_said s c h kinds.Keepalive body = without_change heard.Keepalive
body_said s c h kinds.Refresh body = without_change (refresh_said (family_of body))

abbrev pub said_by : Configuration → ℕ → Hearing → List ℕ → Result Head HeaderFault → Said
said_by s c h body (Ok head) = body_said s c h head.kind body
said_by s c h body (Err fault) = without_change (heard.Header fault)

-- a whole message, or the fault of a header
abbrev pub said_in : Configuration → ℕ → Hearing → Result (List ℕ) HeaderFault → Said
said_in s c h (Ok message) = said_by s c h (body_of message) (header_of (allowed_in s) (take 19 message))
said_in s c h (Err fault) = without_change (heard.Header fault)

-- ---- what is heard

abbrev pub with_change : Option Change → List Change → List Change
with_change None changes = changes
with_change (Some change) changes = change ∷ changes

abbrev pub takes_in : Configuration → ℕ → Said → Hearing → Hearing
takes_in s c said h = record {
  octets = h.octets;
  items = items.Message said.message ∷ h.items;
  changes = if is_up (state_in s c h) then with_change said.change h.changes else [];
  taken = h.taken;
  points = asked_if (is_up (state_in s c h) && is_request said.message) h.points;
  keepalives = fell_if (asks_for_keepalive (act_of (session_in s c) (items.Message said.message) h.items)) h.keepalives;
  endings = cons_option (ending_by said.notice (act_of (session_in s c) (items.Message said.message) h.items)) h.endings;
  faults = with_faults said.faulted h.faults;
}

-- a message or a fault: it is heard while the session lasts
abbrev pub listens : Configuration → ℕ → Result (List ℕ) HeaderFault → Hearing → Hearing
listens s c message h = if is_live (state_in s c h) then takes_in s c (said_in s c h message) h else h

abbrev pub listens_to : Configuration → ℕ → List (Result (List ℕ) HeaderFault) → Hearing → Hearing
listens_to s c [] h = h
listens_to s c (message ∷ messages) h = listens_to s c messages (listens s c message h)

-- ---- what each move makes of it

abbrev pub with_octets : List ℕ → Hearing → Hearing
with_octets octets h = record { octets = octets; items = h.items; changes = h.changes; taken = h.taken; points = h.points; keepalives = h.keepalives; endings = h.endings; faults = h.faults }

-- octets come: what they add to those before them is heard
abbrev pub hears : Configuration → ℕ → List ℕ → Hearing → Hearing
hears s c octets h = with_octets (h.octets ++ octets) (listens_to s c (newly_heard (allowed_in s) h.octets octets) h)

abbrev pub begins : Hearing → Hearing
begins h = record { octets = []; items = items.Came ∷ h.items; changes = []; taken = []; points = []; keepalives = []; endings = h.endings; faults = h.faults }

abbrev pub sees : Configuration → ℕ → ℕ → Hearing → Hearing
sees s c t h = record {
  octets = h.octets;
  items = items.Moment t ∷ h.items;
  changes = h.changes;
  taken = h.taken;
  points = h.points;
  keepalives = fell_if (asks_for_keepalive (act_of (session_in s c) (items.Moment t) h.items)) h.keepalives;
  endings = cons_option (expiry_by (act_of (session_in s c) (items.Moment t) h.items)) h.endings;
  faults = h.faults;
}

-- the operator commands this of its session
abbrev pub commanded : Configuration → ℕ → Command → Hearing → Hearing
commanded s c command h = record {
  octets = h.octets;
  items = items.Commanded command ∷ h.items;
  changes = h.changes;
  taken = h.taken;
  points = asked_if (is_up (state_in s c h) && is_refresh command) h.points;
  keepalives = h.keepalives;
  endings = cons_option (command_ending (act_of (session_in s c) (items.Commanded command) h.items)) h.endings;
  faults = h.faults;
}

-- its connection goes, for this reason
abbrev pub leaves : Configuration → ℕ → Ending → Hearing → Hearing
leaves s c why h = record {
  octets = [];
  items = items.Left ∷ h.items;
  changes = [];
  taken = [];
  points = [];
  keepalives = [];
  endings = cons_option (ended_if (is_live (state_in s c h)) why) h.endings;
  faults = h.faults;
}

-- its link takes octets
abbrev pub takes : List ℕ → Hearing → Hearing
takes octets h = record { octets = h.octets; items = h.items; changes = h.changes; taken = h.taken ++ octets; points = h.points; keepalives = h.keepalives; endings = h.endings; faults = h.faults }

-- the next message to it began, where none was in flight
abbrev pub offers : Bool → Hearing → Hearing
offers own h = record { octets = h.octets; items = h.items; changes = h.changes; taken = h.taken; points = if own then Offered h.taken ∷ h.points else h.points; keepalives = if own then Begun h.taken ∷ h.keepalives else h.keepalives; endings = h.endings; faults = h.faults }

-- what is due to it was decided at a turn
abbrev pub decides : Bool → (Prefix → Value) → Hearing → Hearing
decides turned due h = record { octets = h.octets; items = h.items; changes = h.changes; taken = h.taken; points = if turned then Decided due ∷ h.points else h.points; keepalives = h.keepalives; endings = h.endings; faults = h.faults }
