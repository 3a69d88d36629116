-- A session as the list of what befell it, the newest first.
use Rattle.std.specs.Prelude.{ℕ, zero, suc, Bool, true, false, max, List, [], ◌∷◌, Option, Some, None, Ok, Err, if◌then◌else◌}
use Rattle.rs_open.specs.declared.open.Open.{Open}
use Rattle.rs_session.specs.declared.command.Command.{Command}
use Rattle.rs_session.specs.declared.heard.Heard.{Heard}
use Rattle.rs_session.specs.declared.heard.Heard.TheVariants as heard

pub data Item : Type 0 where
  Came : Item  -- a connection came
  Message : (message : Heard) → Item  -- a message was heard, or the fault of a header
  Moment : (t : ℕ) → Item  -- a moment was seen
  Commanded : (command : Command) → Item  -- the operator gave this command
  Left : Item  -- the connection was lost

-- the greatest moment so far; 0 before the first
abbrev pub greatest : List Item → ℕ
greatest [] = 0
greatest (Came ∷ items) = greatest items
greatest (Message message ∷ items) = greatest items
greatest (Moment t ∷ items) = max (greatest items) t
greatest (Commanded command ∷ items) = greatest items
greatest (Left ∷ items) = greatest items

-- there is a connection: one came, and it was not lost since
abbrev pub is_connected : List Item → Bool
is_connected [] = false
is_connected (Came ∷ items) = true
is_connected (Message message ∷ items) = is_connected items
is_connected (Moment t ∷ items) = is_connected items
is_connected (Commanded command ∷ items) = is_connected items
is_connected (Left ∷ items) = false

-- how many messages were heard since the connection came
abbrev pub message_count : List Item → ℕ
message_count [] = 0
message_count (Came ∷ items) = 0
message_count (Message message ∷ items) = suc (message_count items)
message_count (Moment t ∷ items) = message_count items
message_count (Commanded command ∷ items) = message_count items
message_count (Left ∷ items) = 0

-- the message restarts the hold timer (RFC 4271, 8.2.2; a ROUTE-REFRESH does not)
abbrev pub restarts_hold_timer : Heard → Bool
restarts_hold_timer (heard.Open read) = true
restarts_hold_timer (heard.Update reset) = true
restarts_hold_timer (heard.Refresh afi safi) = false
restarts_hold_timer heard.Note = false
restarts_hold_timer heard.Keepalive = true
restarts_hold_timer (heard.Header fault) = false

-- the greatest moment at the last OPEN, KEEPALIVE or UPDATE, and before the first when the connection came
abbrev pub hold_timer_since : List Item → ℕ
hold_timer_since [] = 0
hold_timer_since (Came ∷ items) = greatest items
hold_timer_since (Message message ∷ items) =
    if restarts_hold_timer message then greatest items else hold_timer_since items
hold_timer_since (Moment t ∷ items) = hold_timer_since items
hold_timer_since (Commanded command ∷ items) = hold_timer_since items
hold_timer_since (Left ∷ items) = 0

-- the OPEN in a message
abbrev pub open_in : Heard → Option Open
open_in (heard.Open (Ok sent)) = Some sent
open_in (heard.Open (Err fault)) = None
open_in (heard.Update reset) = None
open_in (heard.Refresh afi safi) = None
open_in heard.Note = None
open_in heard.Keepalive = None
open_in (heard.Header fault) = None

-- the OPEN that came as the first message
abbrev pub open_heard : List Item → Option Open
open_heard [] = None
open_heard (Came ∷ items) = None
open_heard (Message message ∷ items) =
    elim (message_count items) [ zero ↦ open_in message | suc count ↦ open_heard items ]
open_heard (Moment t ∷ items) = open_heard items
open_heard (Commanded command ∷ items) = open_heard items
open_heard (Left ∷ items) = None
