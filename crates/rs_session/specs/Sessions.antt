-- The session of a client, read off the list of what befell it (RFC 4271, 8).
use Rattle.std.specs.Prelude.{ℕ, zero, suc, ◌-◌, ◌/◌, Bool, true, false, not, ◌&&◌, nat_eq, nat_le, List, [], ◌∷◌, Option, Some, None, ⊤, if◌then◌else◌}
use Rattle.rs_attrs.specs.declared.mode.Mode.{Mode}
use Rattle.rs_attrs.specs.declared.mode.Mode.TheVariants as modes
use Rattle.rs_open.specs.declared.open.Open.{Open}
use Rattle.rs_open.specs.declared.short.Short.TheVariants as short
use Rattle.rs_open.specs.declared.short.Limit.{Limit}
use Rattle.rs_open.specs.declared.short.Limit.TheVariants as limits
use Rattle.rs_session.specs.declared.command.Command.{Command}
use Rattle.rs_session.specs.declared.command.Command.TheVariants as commands
use Rattle.rs_session.specs.declared.heard.Heard.{Heard}
use Rattle.rs_session.specs.declared.heard.Heard.TheVariants as heard
use Rattle.rs_session.specs.declared.act.State.{State}
use Rattle.rs_session.specs.declared.act.State.TheVariants as states
use Rattle.rs_session.specs.declared.act.Act.{Act}
use Rattle.rs_session.specs.declared.act.Act.TheVariants as acts
use Rattle.rs_session.specs.declared.settings.Settings.{Settings}
use Rattle.rs_session.specs.Items.{Item, Came, Message, Moment, Commanded, Left, greatest, is_connected, message_count, hold_timer_since, open_heard}
use Rattle.rs_session.specs.Endings.{Fate, GoesOn, Ends, IsBriefEnd, message_fate, moment_fate, command_fate, hold_time}

-- ---- the end

-- what an item does to a session that heard the items before it
abbrev pub item_fate : Settings → Item → List Item → Fate
item_fate settings Came items = GoesOn
item_fate settings (Message message) items = message_fate settings.peer_as (message_count items) message
item_fate settings (Moment t) items =
    moment_fate (hold_time settings.hold (open_heard items)) (hold_timer_since items) (greatest (Moment t ∷ items))
item_fate settings (Commanded command) items = command_fate command
item_fate settings Left items = GoesOn

-- the first end counts
abbrev pub earlier : Fate → Fate → Fate
earlier GoesOn later = later
earlier (Ends note) later = Ends note

-- the end that the first item brings that ends the session
abbrev pub fate : Settings → List Item → Fate
fate settings [] = GoesOn
fate settings (Came ∷ items) = GoesOn
fate settings (Message message ∷ items) =
    earlier (fate settings items) (item_fate settings (Message message) items)
fate settings (Moment t ∷ items) =
    earlier (fate settings items) (item_fate settings (Moment t) items)
fate settings (Commanded command ∷ items) =
    earlier (fate settings items) (item_fate settings (Commanded command) items)
fate settings (Left ∷ items) = GoesOn

-- ---- the state

abbrev pub state_by : Bool → Fate → ℕ → State
state_by false end count = states.Idle
state_by true (Ends said) count = states.Closing
state_by true GoesOn zero = states.OpenSent
state_by true GoesOn (suc zero) = states.OpenConfirm
state_by true GoesOn (suc (suc count)) = states.Established

-- by whether there is a connection, whether an item ended the session, and how many messages were heard
abbrev pub state_of : Settings → List Item → State
state_of settings items = state_by (is_connected items) (fate settings items) (message_count items)

-- there is a connection, and its session has not ended
abbrev pub is_live : State → Bool
is_live states.Idle = false
is_live states.OpenSent = true
is_live states.OpenConfirm = true
is_live states.Established = true
is_live states.Closing = false

-- ---- what the OPEN says

abbrev pub agreed_by : State → Option Open → Option Open
agreed_by states.Idle sent = None
agreed_by states.OpenSent sent = None
agreed_by states.OpenConfirm sent = sent
agreed_by states.Established sent = sent
agreed_by states.Closing sent = None

-- the OPEN that was accepted, while the session lasts
abbrev pub agreed_of : Settings → List Item → Option Open
agreed_of settings items = agreed_by (state_of settings items) (open_heard items)

-- AS numbers have four octets where the OPEN has the capability for it (RFC 6793, 3)
abbrev pub mode_in : Option ℕ → Mode
mode_in None = modes.Two
mode_in (Some four) = modes.Four

abbrev pub mode_by : Option Open → Option Mode
mode_by None = None
mode_by (Some sent) = Some (mode_in sent.four)

abbrev pub identifier_by : Option Open → ℕ
identifier_by None = 0
identifier_by (Some sent) = sent.identifier

-- long messages go only to a client that takes them (RFC 8654, 4), and only where the server is set to send them
abbrev pub limit_by : Bool → Option Open → Limit
limit_by extended None = limits.Short
limit_by extended (Some sent) = if extended && sent.long then limits.Long else limits.Short

-- the Hold Time used with that client, in seconds: the smaller of the two (RFC 4271, 4.2)
abbrev pub hold_by : ℕ → Option Open → Option ℕ
hold_by hold None = None
hold_by hold (Some sent) = Some (hold_time hold (Some sent))

abbrev pub agreed_mode : Settings → List Item → Option Mode
agreed_mode settings items = mode_by (agreed_of settings items)

abbrev pub agreed_identifier : Settings → List Item → ℕ
agreed_identifier settings items = identifier_by (agreed_of settings items)

abbrev pub agreed_hold : Settings → List Item → Option ℕ
agreed_hold settings items = hold_by settings.hold (agreed_of settings items)

abbrev pub agreed_limit : Settings → List Item → Limit
agreed_limit settings items = limit_by settings.extended (agreed_of settings items)

-- ---- KEEPALIVEs (RFC 4271, 4.4)

-- a third of the Hold Time used, rounded down, or more lies between two moments; never, where it is 0
abbrev pub is_third_past : ℕ → ℕ → ℕ → Bool
is_third_past hold since now = not (nat_eq hold 0) && nat_le (hold / 3) (now - since)

-- by the end so far and the OPEN
abbrev pub falls_by : Fate → ℕ → Option Open → ℕ → ℕ → Bool
falls_by (Ends said) hold sent since now = false
falls_by GoesOn hold None since now = false
falls_by GoesOn hold (Some sent) since now = is_third_past (hold_time hold (Some sent)) since now

-- a KEEPALIVE falls due at the newest item: none has ended the session, and a third or more of the Hold Time has passed
-- since the last one fell due
abbrev pub falls_behind : Settings → List Item → ℕ → Bool
falls_behind settings items since = falls_by (fate settings items) settings.hold (open_heard items) since (greatest items)

-- when one fell due last: at the OPEN, then at each moment at which one falls due
abbrev pub keepalive_timer_since : Settings → List Item → ℕ
keepalive_timer_since settings [] = 0
keepalive_timer_since settings (Came ∷ items) = 0
keepalive_timer_since settings (Message message ∷ items) =
    elim (message_count items) [ zero ↦ greatest items | suc count ↦ keepalive_timer_since settings items ]
keepalive_timer_since settings (Moment t ∷ items) =
    if falls_behind settings (Moment t ∷ items) (keepalive_timer_since settings items)
    then greatest (Moment t ∷ items)
    else keepalive_timer_since settings items
keepalive_timer_since settings (Commanded command ∷ items) = keepalive_timer_since settings items
keepalive_timer_since settings (Left ∷ items) = 0

-- a KEEPALIVE falls due at this moment
abbrev pub falls_due : Settings → ℕ → List Item → Bool
falls_due settings t items = falls_behind settings (Moment t ∷ items) (keepalive_timer_since settings items)

-- ---- what is to be done

-- the client asks for IPv4 unicast routes again (RFC 2918, 4)
abbrev pub is_request : Heard → Bool
is_request (heard.Open read) = false
is_request (heard.Update reset) = false
is_request (heard.Refresh afi safi) = nat_eq afi 1 && nat_eq safi 1
is_request heard.Note = false
is_request heard.Keepalive = false
is_request (heard.Header fault) = false

-- by how the session fares with the message, and how many were heard before it
abbrev pub message_act : Fate → ℕ → Heard → Act
message_act (Ends note) count message = acts.Down note
message_act GoesOn zero message = acts.Say short.Keepalive
message_act GoesOn (suc zero) message = acts.Up
message_act GoesOn (suc (suc count)) message = if is_request message then acts.Again else acts.None

abbrev pub moment_act : Fate → Bool → Act
moment_act (Ends note) falls = acts.Down note
moment_act GoesOn falls = if falls then acts.Say short.Keepalive else acts.None

-- the client is to be told its routes again
abbrev pub is_refresh : Command → Bool
is_refresh (commands.Stop text) = false
is_refresh commands.Refresh = true

-- by how the session fares with the command, and how many messages were heard before it
abbrev pub command_act : Fate → ℕ → Act
command_act (Ends note) count = acts.Down note
command_act GoesOn zero = acts.None
command_act GoesOn (suc zero) = acts.None
command_act GoesOn (suc (suc count)) = acts.Again

-- what is to be done at an item after others; nothing where there is no session that lasts
abbrev pub act_of : Settings → Item → List Item → Act
act_of settings Came items = acts.Say short.Open
act_of settings (Message message) items =
    if is_live (state_of settings items)
    then message_act (item_fate settings (Message message) items) (message_count items) message
    else acts.None
act_of settings (Moment t) items =
    if is_live (state_of settings items)
    then moment_act (item_fate settings (Moment t) items) (falls_due settings t items)
    else acts.None
act_of settings (Commanded command) items =
    if is_live (state_of settings items)
    then command_act (item_fate settings (Commanded command) items) (message_count items)
    else acts.None
act_of settings Left items = acts.None

-- ---- how long it lasts without a word of the client

-- the answer is to end the session
abbrev pub is_down : Act → Bool
is_down acts.None = false
is_down (acts.Say said) = false
is_down acts.Up = false
is_down (acts.Down said) = true
is_down acts.Again = false

-- a moment seen next ends the session: its hold timer has run out (RFC 4271, 6.5)
abbrev pub ends_at : Settings → List Item → ℕ → Bool
ends_at settings items t = is_down (act_of settings (Moment t) items)

-- a session says its OPEN or a KEEPALIVE, and ends with a brief NOTIFICATION or with none
abbrev pub SaysBriefly : Act → Type 0
SaysBriefly acts.None = ⊤
SaysBriefly (acts.Say short.Open) = ⊤
SaysBriefly (acts.Say short.Keepalive) = ⊤
SaysBriefly (acts.Say (short.Note code sub extra count)) = ⊥
SaysBriefly acts.Up = ⊤
SaysBriefly (acts.Down said) = IsBriefEnd said
SaysBriefly acts.Again = ⊤
