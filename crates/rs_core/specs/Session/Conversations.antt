-- Which messages go to a client, and in which order (RFC 4271, 4 and 8.2.2): an OPEN, then KEEPALIVEs and UPDATEs, then at most
-- a NOTIFICATION.
use Rattle.std.specs.Prelude.{◌≡◌, ◌≢◌, ◌⊎◌, ℕ, Bool, true, false, List, [], ◌∷◌, ◌++◌, Option, Some, None, if◌then◌else◌}
use Rattle.std.specs.List.{AllByRecursion}
use Rattle.rs_octets.specs.declared.heads.Kind.TheVariants as kinds
use Rattle.rs_octets.specs.Messages.{IsMessageOf, body_of, messages_of, rest_of}
use Rattle.rs_octets.specs.Prefixes.{Prefix}
use Rattle.rs_attrs.specs.declared.mode.Mode.{Mode}
use Rattle.rs_attrs.specs.Meaning.{Attribute}
use Rattle.rs_attrs.specs.Effects.{HasMandatory}
use Rattle.rs_open.specs.declared.short.Short.{Short}
use Rattle.rs_open.specs.declared.writing.ServerOpen.{ServerOpen}
use Rattle.rs_open.specs.Writing.{keepalive, server_open}
use Rattle.rs_packer.specs.Denoted.{Holds}
use Rattle.rs_session.specs.declared.settings.Settings.{Settings}
use Rattle.rs_session.specs.Items.{Item, Came, Message, Moment, Commanded, Left, is_connected}
use Rattle.rs_session.specs.Endings.{Fate, GoesOn, Ends}
use Rattle.rs_session.specs.Sessions.{state_of, agreed_of, fate}
use Rattle.rs_policy.specs.Configuration.{Configuration}
use Rattle.rs_outlet.specs.declared.answers.Speech.{Speech}
use Rattle.rs_outlet.specs.Message.Next.{note_octets}
use Rattle.rs_outlet.specs.Views.{View}
use Rattle.rs_core.specs.Session.Hearing.{is_up}
use Rattle.rs_core.specs.Run.Meaning.{speech_by}
use Rattle.rs_core.specs.Told.Telling.{allowed_to, limit_to}

-- ---- one message

-- Nothing is wrong with the body of an UPDATE (RFC 4271, 6.3; RFC 7606): its fields hold whole prefixes and well-formed
-- attributes, and where routes are announced, ORIGIN, AS_PATH and NEXT_HOP are among these.
pub record IsFaultless (mode : Mode) (body : List ℕ) : Type 0 where
  pub withdrawn : List Prefix
  pub attributes : List Attribute
  pub announced : List Prefix
  pub holds : Holds body mode withdrawn attributes announced
  pub mandatory : announced ≢ [] → HasMandatory attributes

-- a KEEPALIVE; or, where UPDATEs go to the client like this, an UPDATE, no longer than it takes, with which nothing is wrong
abbrev pub IsRoutine : Option Speech → List ℕ → Type 0
IsRoutine None message = message ≡ keepalive
IsRoutine (Some speech) message =
    (message ≡ keepalive) ⊎ (IsMessageOf (allowed_to speech.limit) kinds.Update message × IsFaultless speech.mode (body_of message))

-- ---- all of them

-- what the server's OPEN says (RFC 4271, 4.2)
abbrev pub own_open : Configuration → ServerOpen
own_open s = record {
  server_as = s.top.server_as;
  hold = s.top.hold;
  identifier = s.top.identifier;
  multiprotocol = s.top.multiprotocol;
  extended = s.top.extended;
  refresh = s.top.refresh;
}

-- octets are whole messages, as the client reads them: this OPEN, then KEEPALIVEs and UPDATEs, then these
pub record IsConversation (said : ServerOpen) (speech : Option Speech) (last : List (List ℕ)) (octets : List ℕ) : Type 0 where
  pub whole : rest_of (allowed_to (limit_to speech)) octets ≡ []
  pub routine : List (List ℕ)
  pub messages : messages_of (allowed_to (limit_to speech)) octets ≡ server_open said ∷ routine ++ last
  pub each : AllByRecursion (IsRoutine speech) routine

-- they are the beginning of such octets
pub record IsCutOff (said : ServerOpen) (speech : Option Speech) (octets : List ℕ) : Type 0 where
  pub missing : List ℕ
  pub whole : IsConversation said speech [] (octets ++ missing)

-- how a client is spoken to, by the OPEN that its session agreed on
abbrev pub agreed_speech : Settings → List Item → Option Speech
agreed_speech settings items = speech_by settings.extended (agreed_of settings items)

-- how UPDATEs go to a client since it is Established, and went to it before its session ended: with AS numbers of so many octets,
-- in messages no longer than this; before it is Established there are none
abbrev pub update_speech : Settings → List Item → Option Speech
update_speech settings [] = None
update_speech settings (Came ∷ items) = None
update_speech settings (Message message ∷ items) =
    if is_up (state_of settings (Message message ∷ items)) then agreed_speech settings (Message message ∷ items) else update_speech settings items
update_speech settings (Moment t ∷ items) =
    if is_up (state_of settings (Moment t ∷ items)) then agreed_speech settings (Moment t ∷ items) else update_speech settings items
update_speech settings (Commanded command ∷ items) =
    if is_up (state_of settings (Commanded command ∷ items)) then agreed_speech settings (Commanded command ∷ items) else update_speech settings items
update_speech settings (Left ∷ items) = None

-- ---- by the session

-- what is still to be said to a client: the octets in flight, a NOTIFICATION that waits, and whether a KEEPALIVE is due
pub record Outgoing : Type 0 where
  pub flight : List ℕ
  pub note : Option Short
  pub keepalive_due : Bool

abbrev pub outgoing_of : View → Outgoing
outgoing_of v = record { flight = v.flight; note = v.note; keepalive_due = v.keepalive_due }

-- this NOTIFICATION waits, or it is the last message
abbrev pub EndsWith : Short → ServerOpen → Option Speech → List ℕ → Outgoing → Type 0
EndsWith note said speech taken out =
    ((out.note ≡ Some note) × IsConversation said speech [] (taken ++ out.flight))
    ⊎ ((out.note ≡ None) × IsConversation said speech (note_octets note ∷ []) (taken ++ out.flight))

-- The octets taken, and those in flight behind them, are what the session asks for. While it lasts, they are a conversation, and
-- no NOTIFICATION waits. Where it ends with a NOTIFICATION, they are whole messages still, and that one waits or is the last of
-- them, and nothing else follows. Where it ends with none, since one was heard, nothing is in flight, and nothing follows.
abbrev pub Concludes : Fate → ServerOpen → Option Speech → List ℕ → Outgoing → Type 0
Concludes GoesOn said speech taken out = (out.note ≡ None) × IsConversation said speech [] (taken ++ out.flight)
Concludes (Ends (Some note)) said speech taken out = (out.keepalive_due ≡ false) × EndsWith note said speech taken out
Concludes (Ends None) said speech taken out = (out ≡ record { flight = []; note = None; keepalive_due = false }) × IsCutOff said speech taken

-- so it is since the connection of a client came, by what befell its session; without a connection nothing was said, or is to be
pub record Converses (settings : Settings) (said : ServerOpen) (items : List Item) (taken : List ℕ) (out : Outgoing) : Type 0 where
  pub connected : is_connected items ≡ true → Concludes (fate settings items) said (update_speech settings items) taken out
  pub alone : is_connected items ≡ false → (taken ≡ []) × (out ≡ record { flight = []; note = None; keepalive_due = false })
