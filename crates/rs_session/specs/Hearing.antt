-- What a session has heard, and what follows from its answers.
use Rattle.std.specs.Prelude.{◌≡◌, ℕ, suc, Bool, true, false, List, ◌∷◌, Option, Some, None, ◌⊎◌}
use Rattle.rs_open.specs.declared.open.Open.{Open}
use Rattle.rs_open.specs.declared.short.Short.{Short}
use Rattle.rs_open.specs.declared.short.Short.TheVariants as short
use Rattle.rs_session.specs.declared.act.State.TheVariants as states
use Rattle.rs_session.specs.declared.act.Act.{Act}
use Rattle.rs_session.specs.declared.act.Act.TheVariants as acts
use Rattle.rs_session.specs.declared.settings.Settings.{Settings}
use Rattle.rs_session.specs.declared.session.Session.{Session}
use Rattle.rs_session.specs.declared.phase.Phase.{Phase}
use Rattle.rs_session.specs.declared.phase.Phase.TheVariants as phases
use Rattle.rs_session.specs.declared.phase.Peer.{Peer}
use Rattle.rs_session.specs.Items.{Item, Left, greatest, is_connected, message_count, hold_timer_since, open_heard}
use Rattle.rs_session.specs.Endings.{GoesOn, Ends}
use Rattle.rs_session.specs.Sessions.{fate, state_of, is_live, agreed_of, keepalive_timer_since, act_of}

-- ---- what the fields hold

-- a connection came, and no message
pub record IsWaiting (settings : Settings) (items : List Item) (since : ℕ) : Type 0 where
  pub connected : is_connected items ≡ true
  pub lasts : fate settings items ≡ GoesOn
  pub count : message_count items ≡ 0
  pub sent : open_heard items ≡ None
  pub hold_timer : hold_timer_since items ≡ since

-- one message was heard; two or more were
abbrev pub IsCount : Bool → ℕ → Type 0
IsCount false count = count ≡ 1
IsCount true count = (more : ℕ) × (count ≡ suc (suc more))

-- an acceptable OPEN was heard, and perhaps more
pub record HasAgreed (settings : Settings) (items : List Item) (peer : Peer) : Type 0 where
  pub connected : is_connected items ≡ true
  pub lasts : fate settings items ≡ GoesOn
  pub count : IsCount peer.confirmed (message_count items)
  pub sent : open_heard items ≡ Some peer.sent
  pub hold_timer : hold_timer_since items ≡ peer.hold_timer_since
  pub keepalive_timer : keepalive_timer_since settings items ≡ peer.keepalive_timer_since

-- an item ended the session
pub record HasEnded (settings : Settings) (items : List Item) : Type 0 where
  pub connected : is_connected items ≡ true
  pub note : Option Short
  pub ends : fate settings items ≡ Ends note

abbrev pub Stands : Phase → Settings → List Item → Type 0
Stands phases.Idle settings items = is_connected items ≡ false
Stands (phases.OpenSent since) settings items = IsWaiting settings items since
Stands (phases.Agreed peer) settings items = HasAgreed settings items peer
Stands phases.Closing settings items = HasEnded settings items

pub record Holds (session : Session) (settings : Settings) (items : List Item) : Type 0 where
  pub settings_are : session.settings ≡ settings
  pub latest : session.latest ≡ greatest items
  pub phase : Stands session.phase settings items

-- what is configured of a session, whatever it has heard
unfoldable pub configured : Session → Settings
configured session = session.settings

-- the session of a client with these settings has come to this by these items, the newest first
unfoldable pub HasHeard : Session → Settings → List Item → Type 0
HasHeard session settings items = Holds session settings items

-- whatever the settings and the items are that a session has heard
abbrev pub Whenever : Session → (Settings → List Item → Type 0) → Type 0
Whenever session P =
    (settings : Settings) (items : List Item) → HasHeard session settings items → P settings items

-- a value is read off the items
abbrev pub Shows : {X : Type 0} → Session → (Settings → List Item → X) → X → Type 0
Shows session f x = Whenever session (λ settings items. x ≡ f settings items)

-- ---- what follows from an answer for the items before and after

-- the state stays, and so does what the OPEN says
pub record Stays (settings : Settings) (old new : List Item) : Type 0 where
  pub state : state_of settings new ≡ state_of settings old
  pub agreed : agreed_of settings new ≡ agreed_of settings old

-- our OPEN is due
pub record Opens (settings : Settings) (old new : List Item) : Type 0 where
  pub before : state_of settings old ≡ states.Idle
  pub now : state_of settings new ≡ states.OpenSent

-- a KEEPALIVE is due: it answers the OPEN, or the timer says so
pub record Confirms (settings : Settings) (old new : List Item) : Type 0 where
  pub before : state_of settings old ≡ states.OpenSent
  pub now : state_of settings new ≡ states.OpenConfirm

pub record Beats (settings : Settings) (old new : List Item) : Type 0 where
  pub live : is_live (state_of settings old) ≡ true
  pub same : Stays settings old new

-- the session comes up, with what the OPEN says
pub record ComesUp (settings : Settings) (old new : List Item) : Type 0 where
  pub before : state_of settings old ≡ states.OpenConfirm
  pub now : state_of settings new ≡ states.Established
  pub sent : Open
  pub agreed : agreed_of settings new ≡ Some sent

-- the session ends
pub record GoesDown (settings : Settings) (old new : List Item) (said : Option Short) : Type 0 where
  pub live : is_live (state_of settings old) ≡ true
  pub now : state_of settings new ≡ states.Closing
  pub ends : fate settings new ≡ Ends said

-- the client asks for the routes again, or the operator for it
pub record Asks (settings : Settings) (old new : List Item) : Type 0 where
  pub before : state_of settings old ≡ states.Established
  pub same : Stays settings old new

abbrev pub Says : Short → Settings → List Item → List Item → Type 0
Says short.Open settings old new = Opens settings old new
Says short.Keepalive settings old new = Confirms settings old new ⊎ Beats settings old new
Says (short.Note code sub extra count) settings old new = ⊥

abbrev pub Tells : Act → Settings → List Item → List Item → Type 0
Tells acts.None settings old new = Stays settings old new
Tells (acts.Say message) settings old new = Says message settings old new
Tells acts.Up settings old new = ComesUp settings old new
Tells (acts.Down said) settings old new = GoesDown settings old new said
Tells acts.Again settings old new = Asks settings old new

-- ---- one item more

pub record RespondsAt (new : Session) (item : Item) (act : Act) (settings : Settings) (items : List Item) : Type 0 where
  pub heard : HasHeard new settings (item ∷ items)
  pub act_is : act ≡ act_of settings item items
  pub tells : Tells act settings items (item ∷ items)

-- an item befell the session, and it answered as it is defined
abbrev pub RespondsTo : Session → Session → Item → Act → Type 0
RespondsTo old new item act = Whenever old (RespondsAt new item act)

-- a session that lasts has nothing to do after a message only where it is Established, and so takes what the message says
abbrev pub TakesAt : Act → Settings → List Item → Type 0
TakesAt act settings items =
    act ≡ acts.None → is_live (state_of settings items) ≡ true → state_of settings items ≡ states.Established

abbrev pub Takes : Session → Act → Type 0
Takes session act = Whenever session (TakesAt act)

-- its connection is lost, and of what it has heard the greatest moment alone still counts
abbrev pub Forgets : Session → Session → Type 0
Forgets old new = Whenever old (λ settings items.
    (others : List Item) → greatest others ≡ greatest items → HasHeard new settings (Left ∷ others))
