-- Worked rows, by computation: the definitions alone, at the values that a session is known to have.
use Rattle.std.specs.Prelude.{◌≡◌, ℕ, false, List, [], ◌∷◌, replicate, Some, None, Ok, refl}
use Rattle.rs_octets.specs.declared.heads.HeaderFault.TheVariants as header
use Rattle.rs_open.specs.Notes.{note, note_1, note_2, no_text}
use Rattle.rs_open.specs.declared.open.Open.{Open}
use Rattle.rs_open.specs.declared.short.Short.TheVariants as short
use Rattle.rs_open.specs.declared.shutdown.ShutdownText.{ShutdownText}
use Rattle.rs_session.specs.declared.command.Command.TheVariants as commands
use Rattle.rs_session.specs.declared.heard.Heard.TheVariants.{Update, Refresh, Note, Keepalive, Header}
use Rattle.rs_session.specs.declared.heard.Heard.TheVariants as heard
use Rattle.rs_session.specs.declared.act.State.TheVariants.{Idle, OpenSent, OpenConfirm, Established, Closing}
use Rattle.rs_session.specs.declared.act.Act.{Act}
use Rattle.rs_session.specs.declared.act.Act.TheVariants as acts
use Rattle.rs_session.specs.declared.settings.Settings.{Settings}
use Rattle.rs_session.specs.Items.{Item, Came, Message, Moment, Commanded, Left}
use Rattle.rs_session.specs.Sessions.{act_of, state_of}

-- client 64496, Hold Time 90
abbrev pub a : Settings
a = record { peer_as = 64496; hold = 90; extended = false }

abbrev pub open_a : Open
open_a = record { my_as = 64496; four = Some 64496; hold = 90; identifier = 0xc000020b; long = false }

abbrev pub opening : Open → Item
opening sent = Message (heard.Open (Ok sent))

abbrev keepalive : Item
keepalive = Message Keepalive

-- the newest first
abbrev pub came : List Item
came = Came ∷ []

abbrev pub confirming : List Item
confirming = opening open_a ∷ came

abbrev pub up : List Item
up = keepalive ∷ confirming

abbrev pub down : ℕ → ℕ → Act
down code sub = acts.Down (Some (note code sub))

-- ---- 240 seconds for the OPEN

silent_239 : act_of a (Moment 239) came ≡ acts.None
silent_239 = refl

silent_240 : act_of a (Moment 240) (Moment 239 ∷ came) ≡ down 4 0
silent_240 = refl

silent_since_1000 : act_of a (Moment 1239) (Came ∷ Moment 1000 ∷ []) ≡ acts.None
silent_since_1000 = refl

silent_too_long_since_1000 : act_of a (Moment 1240) (Came ∷ Moment 1000 ∷ []) ≡ down 4 0
silent_too_long_since_1000 = refl

a_moment_that_goes_back : act_of a (Moment 5) (Came ∷ Moment 1000 ∷ []) ≡ acts.None
a_moment_that_goes_back = refl

-- ---- coming up

ours_first : act_of a Came [] ≡ acts.Say short.Open
ours_first = refl

open_is_answered : act_of a (opening open_a) came ≡ acts.Say short.Keepalive
open_is_answered = refl

keepalive_brings_up : act_of a keepalive confirming ≡ acts.Up
keepalive_brings_up = refl

established_takes_updates : act_of a (Message (Update None)) up ≡ acts.None
established_takes_updates = refl

opensent : state_of a came ≡ OpenSent
opensent = refl

openconfirm : state_of a confirming ≡ OpenConfirm
openconfirm = refl

established : state_of a up ≡ Established
established = refl

idle : state_of a [] ≡ Idle
idle = refl

lost_is_idle : state_of a (Left ∷ up) ≡ Idle
lost_is_idle = refl

lost_while_closing : state_of a (Left ∷ Message Note ∷ up) ≡ Idle
lost_while_closing = refl

-- ---- a Hold Time of 90

at_29 : act_of a (Moment 29) up ≡ acts.None
at_29 = refl

at_30 : act_of a (Moment 30) (Moment 29 ∷ up) ≡ acts.Say short.Keepalive
at_30 = refl

at_59 : act_of a (Moment 59) (Moment 30 ∷ Moment 29 ∷ up) ≡ acts.None
at_59 = refl

at_60 : act_of a (Moment 60) (Moment 59 ∷ Moment 30 ∷ Moment 29 ∷ up) ≡ acts.Say short.Keepalive
at_60 = refl

at_89 : act_of a (Moment 89) (Moment 60 ∷ Moment 59 ∷ Moment 30 ∷ up) ≡ acts.None
at_89 = refl

at_90 : act_of a (Moment 90) (Moment 60 ∷ Moment 59 ∷ Moment 30 ∷ Moment 29 ∷ up) ≡ down 4 0
at_90 = refl

closing_at_90 : state_of a (Moment 90 ∷ up) ≡ Closing
closing_at_90 = refl

one_keepalive_for_a_jump : act_of a (Moment 86) (Moment 85 ∷ up) ≡ acts.None
one_keepalive_for_a_jump = refl

a_third_after_the_jump : act_of a (Moment 115) (keepalive ∷ Moment 85 ∷ up) ≡ acts.Say short.Keepalive
a_third_after_the_jump = refl

in_openconfirm_too : act_of a (Moment 30) (Moment 29 ∷ confirming) ≡ acts.Say short.Keepalive
in_openconfirm_too = refl

expiry_in_openconfirm : act_of a (Moment 90) confirming ≡ down 4 0
expiry_in_openconfirm = refl

an_update_restarts : act_of a (Moment 100) (Message (Update None) ∷ Moment 20 ∷ up) ≡ acts.Say short.Keepalive
an_update_restarts = refl

up_to_110 : act_of a (Moment 110) (Message (Update None) ∷ Moment 20 ∷ up) ≡ down 4 0
up_to_110 = refl

a_refresh_does_not : act_of a (Moment 90) (Message (Refresh 1 1) ∷ Moment 20 ∷ up) ≡ down 4 0
a_refresh_does_not = refl

the_smaller_hold_time : act_of a (Moment 30) (opening (record open_a { hold = 30 }) ∷ came) ≡ down 4 0
the_smaller_hold_time = refl

ours_is_smaller : act_of (record a { hold = 9 }) (Moment 9) confirming ≡ down 4 0
ours_is_smaller = refl

hold_3_third_1 : act_of (record a { hold = 3 }) (Moment 1) confirming ≡ acts.Say short.Keepalive
hold_3_third_1 = refl

hold_5_third_1 : act_of (record a { hold = 5 }) (Moment 1) confirming ≡ acts.Say short.Keepalive
hold_5_third_1 = refl

hold_89_at_28 : act_of (record a { hold = 89 }) (Moment 28) up ≡ acts.None
hold_89_at_28 = refl

hold_89_at_29 : act_of (record a { hold = 89 }) (Moment 29) up ≡ acts.Say short.Keepalive
hold_89_at_29 = refl

the_timer_runs_from_the_open : act_of a (Moment 30) (keepalive ∷ Moment 29 ∷ confirming) ≡ acts.Say short.Keepalive
the_timer_runs_from_the_open = refl

no_hold_time : act_of a (Moment 1000000) (keepalive ∷ opening (record open_a { hold = 0 }) ∷ came) ≡ acts.None
no_hold_time = refl

no_hold_time_of_ours : act_of (record a { hold = 0 }) (Moment 1000000) up ≡ acts.None
no_hold_time_of_ours = refl

but_240_before_the_open : act_of (record a { hold = 0 }) (Moment 240) came ≡ down 4 0
but_240_before_the_open = refl

-- ---- other messages where they are not expected

keepalive_first : act_of a keepalive came ≡ down 5 0
keepalive_first = refl

update_first : act_of a (Message (Update (Some (3, 1)))) came ≡ down 5 0
update_first = refl

refresh_first : act_of a (Message (Refresh 1 1)) came ≡ down 5 0
refresh_first = refl

update_second : act_of a (Message (Update (Some (3, 1)))) confirming ≡ down 5 0
update_second = refl

refresh_second : act_of a (Message (Refresh 2 1)) confirming ≡ down 5 0
refresh_second = refl

-- ---- headers

marker : act_of a (Message (Header header.Marker)) came ≡ down 1 1
marker = refl

length_4097 : act_of a (Message (Header (header.Length 4097))) up ≡ acts.Down (Some (note_2 1 2 0x10 0x01))
length_4097 = refl

type_9_before_the_open : act_of a (Message (Header (header.Kind 9))) came ≡ acts.Down (Some (note_1 1 3 9))
type_9_before_the_open = refl

-- ---- Established

a_reset : act_of a (Message (Update (Some (3, 10)))) up ≡ down 3 10
a_reset = refl

too_many_prefixes : act_of a (Message (Update (Some (6, 1)))) up ≡ down 6 1
too_many_prefixes = refl

routes_again : act_of a (Message (Refresh 1 1)) up ≡ acts.Again
routes_again = refl

another_family : act_of a (Message (Refresh 2 1)) up ≡ acts.None
another_family = refl

multicast : act_of a (Message (Refresh 1 2)) up ≡ acts.None
multicast = refl

-- ---- a NOTIFICATION is not answered

note_first : act_of a (Message Note) came ≡ acts.Down None
note_first = refl

note_second : act_of a (Message Note) confirming ≡ acts.Down None
note_second = refl

note_while_established : act_of a (Message Note) up ≡ acts.Down None
note_while_established = refl

-- ---- the operator ends the session (RFC 4271, 8.2.2; RFC 9003, 2)

-- "bye"
abbrev bye : ShutdownText
bye = record { octets = 0x62 ∷ 0x79 ∷ 0x65 ∷ replicate 125 0; count = 3 }

abbrev stop : ShutdownText → Item
stop text = Commanded (commands.Stop text)

abbrev says_bye : Act
says_bye = acts.Down (Some (short.Note 6 2 (3 ∷ 0x62 ∷ 0x79 ∷ 0x65 ∷ replicate 125 0) 4))

stop_in_opensent : act_of a (stop bye) came ≡ says_bye
stop_in_opensent = refl

stop_in_openconfirm : act_of a (stop bye) confirming ≡ says_bye
stop_in_openconfirm = refl

stop_while_established : act_of a (stop bye) up ≡ says_bye
stop_while_established = refl

stop_without_text : act_of a (stop no_text) up ≡ down 6 2
stop_without_text = refl

stopped_is_closing : state_of a (stop no_text ∷ up) ≡ Closing
stopped_is_closing = refl

stop_in_idle : act_of a (stop bye) (Left ∷ up) ≡ acts.None
stop_in_idle = refl

idle_stays_idle : state_of a (stop bye ∷ []) ≡ Idle
idle_stays_idle = refl

stop_twice : act_of a (stop bye) (stop no_text ∷ up) ≡ acts.None
stop_twice = refl

stop_after_an_end : act_of a (stop bye) (Message Note ∷ up) ≡ acts.None
stop_after_an_end = refl

the_stopped_hears_nothing : act_of a keepalive (stop bye ∷ confirming) ≡ acts.None
the_stopped_hears_nothing = refl

a_new_session_after_a_stop : state_of a (Came ∷ Left ∷ stop bye ∷ up) ≡ OpenSent
a_new_session_after_a_stop = refl

-- ---- the operator has the routes told again

abbrev refresh : Item
refresh = Commanded commands.Refresh

refresh_while_established : act_of a refresh up ≡ acts.Again
refresh_while_established = refl

established_stays_so : state_of a (refresh ∷ up) ≡ Established
established_stays_so = refl

refresh_in_openconfirm : act_of a refresh confirming ≡ acts.None
refresh_in_openconfirm = refl

openconfirm_stays_so : act_of a keepalive (refresh ∷ confirming) ≡ acts.Up
openconfirm_stays_so = refl

refresh_in_opensent : act_of a refresh came ≡ acts.None
refresh_in_opensent = refl

refresh_in_idle : act_of a refresh [] ≡ acts.None
refresh_in_idle = refl

refresh_while_closing : act_of a refresh (stop bye ∷ up) ≡ acts.None
refresh_while_closing = refl

-- it restarts no timer
a_refresh_of_ours_does_not : act_of a (Moment 90) (refresh ∷ Moment 20 ∷ up) ≡ down 4 0
a_refresh_of_ours_does_not = refl

-- ---- Idle and Closing hear nothing

idle_hears_nothing : act_of a (opening open_a) [] ≡ acts.None
idle_hears_nothing = refl

idle_has_no_timer : act_of a (Moment 1000) (Left ∷ up) ≡ acts.None
idle_has_no_timer = refl

closing_hears_nothing : act_of a (Message (Header header.Marker)) (Message Note ∷ up) ≡ acts.None
closing_hears_nothing = refl

closing_has_no_timer : act_of a (Moment 1000) (Message Note ∷ up) ≡ acts.None
closing_has_no_timer = refl

a_new_session_after_closing : state_of a (Came ∷ Left ∷ Message Note ∷ up) ≡ OpenSent
a_new_session_after_closing = refl
