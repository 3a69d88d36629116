-- What a record says of the steps of a link: the events, a room as it was used, and a connection that was lost without an event.
use Rattle.std.specs.Prelude.{ℕ, ◌+◌, ◌==◌, ◌&&◌, min, true, false, if◌then◌else◌, List, [], ◌∷◌, ◌++◌, length, Option, Some, None, unwrap_or}
use Rattle.rs_open.specs.declared.shutdown.ShutdownText.{ShutdownText}
use Rattle.rs_open.specs.Notes.{no_text, shutdown_text, text_octets}
use Rattle.rs_session.specs.declared.command.Command.{Command}
use Rattle.rs_session.specs.declared.command.Command.TheVariants as commands
use Rattle.rs_core.specs.declared.links.Event.{Event}
use Rattle.rs_core.specs.declared.links.Event.TheVariants as events
use Rattle.rs_core.specs.Drives.Steps.{Step, Happened, Begin, Busy, Offer, Memory, End, Replaced}
use Rattle.rs_core.specs.Drives.Answers.{is_passed_over}
use Rattle.rs_trace.specs.Trace.{LineMeaning}
use Rattle.rs_trace.specs.Played.{meaning_of_event}
use Rattle.rs_record.specs.declared.recorder.UsedRoom.{UsedRoom}
use Rattle.rs_record.specs.declared.recorder.Pending.{Pending}
use Rattle.rs_record.specs.declared.recorder.Pending.TheVariants.{Nothing, Heard, Room}

-- an empty text of rules, which no line gives, is said as an empty line
abbrev pub said_octets : Event → List ℕ → List ℕ
said_octets events.Rules [] = 10 ∷ []
said_octets event octets = octets

-- a text of an operator that no line gives is said as none
abbrev pub said_text : ShutdownText → ShutdownText
said_text text = unwrap_or (shutdown_text (text_octets text)) no_text

abbrev pub said_command : Command → Command
said_command (commands.Stop text) = commands.Stop (said_text text)
said_command commands.Refresh = commands.Refresh

abbrev pub said_event : Event → Event
said_event (events.Opened c) = events.Opened c
said_event (events.Octets c len) = events.Octets c len
said_event (events.Moment t) = events.Moment t
said_event events.Turn = events.Turn
said_event (events.Room c room) = events.Room c room
said_event (events.Lost c) = events.Lost c
said_event (events.Commanded c command) = events.Commanded c (said_command command)
said_event events.Rules = events.Rules
said_event events.Stop = events.Stop

-- the line of an event with these octets, beside n clients; none of an event that changes nothing, and of a stop
abbrev pub event_says : ℕ → Event → List ℕ → List LineMeaning
event_says n event octets = if is_passed_over n event then [] else meaning_of_event (said_event event) (said_octets event octets)

-- what is said, and what the newest event waits for still
pub record Account : Type 0 where
  pub said : List LineMeaning
  pub pending : Pending

abbrev pub account_of : List LineMeaning → Pending → Account
account_of said pending = record { said = said; pending = pending }

-- a room as it was used: all of it where each offer was taken whole, and else as much as was taken
abbrev pub used : UsedRoom → ℕ
used u = if u.is_whole then u.room else u.taken

abbrev pub room_said : ℕ → Pending → List LineMeaning
room_said n Nothing = []
room_said n Heard = []
room_said n (Room u) = event_says n (events.Room u.client (used u)) []

abbrev pub lost : ℕ → ℕ → List LineMeaning
lost n c = event_says n (events.Lost c) []

-- ---- what a step adds

-- an event comes; a room is said once it is known how it was used
abbrev pub newest : ℕ → Event → List ℕ → Account
newest n (events.Room c room) octets = account_of [] (Room (record { client = c; room = room; taken = 0; is_whole = true }))
newest n (events.Octets c len) octets = account_of (event_says n (events.Octets c len) octets) Heard
newest n (events.Opened c) octets = account_of (event_says n (events.Opened c) octets) Nothing
newest n (events.Moment t) octets = account_of (event_says n (events.Moment t) octets) Nothing
newest n events.Turn octets = account_of (event_says n events.Turn octets) Nothing
newest n (events.Lost c) octets = account_of (event_says n (events.Lost c) octets) Nothing
newest n (events.Commanded c command) octets = account_of (event_says n (events.Commanded c command) octets) Nothing
newest n events.Rules octets = account_of (event_says n events.Rules octets) Nothing
newest n events.Stop octets = account_of (event_says n events.Stop octets) Nothing

-- so many octets more were taken, of so many
abbrev pub taken_more : ℕ → ℕ → Pending → Pending
taken_more count k (Room u) = Room (record { client = u.client; room = u.room; taken = min (u.taken + k) 18446744073709551615; is_whole = u.is_whole && (k == count) })
taken_more count k Nothing = Nothing
taken_more count k Heard = Heard

-- an offer failed, of which nothing was taken
abbrev pub failing : Pending → Pending
failing (Room u) = Room (record { client = u.client; room = u.room; taken = u.taken; is_whole = false })
failing Nothing = Nothing
failing Heard = Heard

-- an offer was answered: where it failed, the connection is lost
abbrev pub answered : ℕ → ℕ → ℕ → Option ℕ → Pending → Account
answered n c count (Some k) pending = account_of [] (taken_more count k pending)
answered n c count None pending = account_of (room_said n (failing pending) ++ lost n c) Nothing

-- memory was refused: at octets of a client, its connection is lost
abbrev pub refused : ℕ → ℕ → Pending → Account
refused n c Heard = account_of (lost n c) Nothing
refused n c Nothing = account_of [] Nothing
refused n c (Room u) = account_of [] (Room u)

-- ---- the account of steps, the newest first, beside n clients

abbrev pub extended : List LineMeaning → Account → Account
extended said more = account_of (said ++ more.said) more.pending

abbrev pub closed : ℕ → Account → List LineMeaning
closed n a = a.said ++ room_said n a.pending

abbrev pub account : ℕ → List Step → Account
account n [] = account_of [] Nothing
account n (Happened event octets ∷ steps) = extended (closed n (account n steps)) (newest n event octets)
account n (Begin c ∷ steps) = account n steps
account n (Busy c ∷ steps) = account n steps
account n (Offer c octets answer ∷ steps) = extended (account n steps).said (answered n c (length octets) answer (account n steps).pending)
account n (Memory c ∷ steps) = extended (account n steps).said (refused n c (account n steps).pending)
account n (End c ∷ steps) = account n steps
account n (Replaced answer ∷ steps) = account n steps

-- what a record says of them
abbrev pub recorded : ℕ → List Step → List LineMeaning
recorded n steps = closed n (account n steps)
