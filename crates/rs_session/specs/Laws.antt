-- Laws of sessions.
use Rattle.std.specs.Prelude.{◌≡◌, ◌≢◌, ℕ, ◌-◌, ◌/◌, ◌<◌, ◌≤◌, true, min, List, [], ◌∷◌, ◌++◌, All, Option, Some, None, Ok}
use Rattle.rs_open.specs.Notes.{note}
use Rattle.rs_open.specs.declared.open.Open.{Open}
use Rattle.rs_open.specs.declared.short.Short.{Short}
use Rattle.rs_session.specs.declared.command.Command.{Command}
use Rattle.rs_session.specs.declared.heard.Heard.{Heard}
use Rattle.rs_session.specs.declared.heard.Heard.TheVariants as heard
use Rattle.rs_session.specs.declared.act.State.TheVariants as states
use Rattle.rs_session.specs.declared.act.Act.TheVariants as acts
use Rattle.rs_session.specs.declared.settings.Settings.{Settings}
use Rattle.rs_session.specs.Items.{Item, Came, Message, Moment, Commanded, Left, greatest, hold_timer_since, open_heard}
use Rattle.rs_session.specs.Endings.{GoesOn, Ends, is_from_as, unexpected, later_fate, hold_time, IsBriefEnd}
use Rattle.rs_session.specs.declared.session.Session.{Session}
use Rattle.rs_session.specs.Hearing.{configured, HasHeard}
use Rattle.rs_session.specs.Sessions.{fate, state_of, is_live, agreed_of, keepalive_timer_since, act_of}

-- the messages heard since the connection came, the newest first
abbrev pub messages_heard : List Item → List Heard
messages_heard [] = []
messages_heard (Came ∷ items) = []
messages_heard (Message message ∷ items) = message ∷ messages_heard items
messages_heard (Moment t ∷ items) = messages_heard items
messages_heard (Commanded command ∷ items) = messages_heard items
messages_heard (Left ∷ items) = []

-- an OPEN of the client's AS came first, then a KEEPALIVE, then messages that end nothing; and that OPEN is what is
-- agreed
pub record IsBroughtUp (settings : Settings) (items : List Item) : Type 0 where
  pub sent : Open
  pub later : List Heard
  pub heard : messages_heard items ≡ later ++ (heard.Keepalive ∷ heard.Open (Ok sent) ∷ [])
  pub peer : is_from_as settings.peer_as sent.my_as sent.four ≡ true
  pub allowed : All (λ message. later_fate message ≡ GoesOn) later
  pub agreed : agreed_of settings items ≡ Some sent

abbrev pub BringsUp : Type 0
BringsUp =
    (settings : Settings) (items : List Item)
    → state_of settings items ≡ states.Established → IsBroughtUp settings items

-- less than the time allowed has passed since the peer was last heard, and less than a third of the Hold Time since a
-- KEEPALIVE last fell due
pub record IsInTime (settings : Settings) (items : List Item) : Type 0 where
  pub hold_timer : hold_time settings.hold (open_heard items) ≢ 0
      → greatest items - hold_timer_since items < hold_time settings.hold (open_heard items)
  pub keepalive_timer : (sent : Open) → agreed_of settings items ≡ Some sent → 3 ≤ min settings.hold sent.hold
      → greatest items - keepalive_timer_since settings items < min settings.hold sent.hold / 3

abbrev pub KeepsTime : Type 0
KeepsTime =
    (settings : Settings) (items : List Item)
    → is_live (state_of settings items) ≡ true → IsInTime settings items

-- what ended says nothing more, and stays so until the connection is lost
pub record IsOver (settings : Settings) (items : List Item) : Type 0 where
  pub unheard : (message : Heard) → act_of settings (Message message) items ≡ acts.None
  pub untimed : (t : ℕ) → act_of settings (Moment t) items ≡ acts.None
  pub uncommanded : (command : Command) → act_of settings (Commanded command) items ≡ acts.None
  pub behind_message : (message : Heard) → state_of settings (Message message ∷ items) ≡ states.Closing
  pub behind_moment : (t : ℕ) → state_of settings (Moment t ∷ items) ≡ states.Closing
  pub behind_command : (command : Command) → state_of settings (Commanded command ∷ items) ≡ states.Closing

abbrev pub EndsOnce : Type 0
EndsOnce =
    (settings : Settings) (items : List Item)
    → state_of settings items ≡ states.Closing → IsOver settings items

-- each end is said by a NOTIFICATION with at most 129 octets of data, or by nothing
abbrev pub EndsBriefly : Type 0
EndsBriefly =
    (settings : Settings) (items : List Item) (said : Option Short) → fate settings items ≡ Ends said → IsBriefEnd said

-- what becomes of an UPDATE while a session lasts (RFC 4271, 8.2.2): one that comes too early ends the session, an
-- Established session takes it and stays so, or ends by its session reset
pub record TakesUpdates (settings : Settings) (items : List Item) : Type 0 where
  pub early : (reset : Option (ℕ × ℕ)) → state_of settings items ≢ states.Established
      → act_of settings (Message (heard.Update reset)) items ≡ acts.Down (Some unexpected)
  pub taken : state_of settings items ≡ states.Established
      → act_of settings (Message (heard.Update None)) items ≡ acts.None
  pub stays : state_of settings items ≡ states.Established
      → state_of settings (Message (heard.Update None) ∷ items) ≡ states.Established
  pub reset : (code sub : ℕ) → state_of settings items ≡ states.Established
      → act_of settings (Message (heard.Update (Some (code, sub)))) items ≡ acts.Down (Some (note code sub))

abbrev pub UpdatesAreTaken : Type 0
UpdatesAreTaken =
    (settings : Settings) (items : List Item)
    → is_live (state_of settings items) ≡ true → TakesUpdates settings items

-- what a session has heard, it has heard with what is configured of it
abbrev pub HearsAsConfigured : Type 0
HearsAsConfigured =
    (session : Session) (settings : Settings) (items : List Item)
    → HasHeard session settings items → configured session ≡ settings
