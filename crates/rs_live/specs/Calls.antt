-- What the server asks of its ports, each call with its answer.
use Rattle.std.specs.Prelude.{◌≡◌, ℕ, List, Bool, Option, Some, None, Result, Ok, Err, IsErr, ⊤}
use Rattle.rs_control.specs.declared.order.Order.{Order}
use Rattle.rs_streams.specs.declared.file_watch.FileFault.{FileFault}
use Rattle.rs_live.specs.declared.ports.PortFault.{PortFault}
use Rattle.rs_live.specs.declared.ports.Incoming.{Incoming}
use Rattle.rs_live.specs.declared.ports.Line.{Line}
use Rattle.rs_reports.specs.declared.reports.Report.{Report}

pub data Call : Type 0 where
  Waited : (answer : Result (Unit {0}) PortFault) → Call
  Accepted : (answer : Result (Option Incoming) PortFault) → Call
  Read : (key : ℕ) (piece : List ℕ) (answer : Result (Option ℕ) PortFault) → Call
  Wrote : (key : ℕ) (octets : List ℕ) (answer : Result (Option ℕ) PortFault) → Call
  Closed : (key : ℕ) → Call
  Timed : (seconds : ℕ) → Call
  Fetched : (text : List ℕ) (answer : Result Bool FileFault) → Call
  Ordered : (answer : Option Order) → Call
  Printed : (line : Line) → Call
  Logged : (report : Report) → Call

-- a read with this answer is the last of its connection: it failed, or it read 0 octets, the end of the input
abbrev pub IsLastRead : Result (Option ℕ) PortFault → Type 0
IsLastRead (Ok None) = ⊥
IsLastRead (Ok (Some count)) = count ≡ 0
IsLastRead (Err fault) = ⊤

-- nothing comes of this call: it is no wait, no write and no close, no accept that failed or gave a connection, and no read that is
-- a connection's last or gave octets; and no order was given
abbrev pub IsGood : Call → Type 0
IsGood (Waited answer) = ⊥
IsGood (Accepted answer) = answer ≡ Ok None
IsGood (Read key piece answer) = answer ≡ Ok None
IsGood (Wrote key octets answer) = ⊥
IsGood (Closed key) = ⊥
IsGood (Timed seconds) = ⊤
IsGood (Fetched text answer) = ⊤
IsGood (Ordered answer) = answer ≡ None
IsGood (Printed line) = ⊤
IsGood (Logged report) = ⊤

abbrev pub IsFailedWait : Call → Type 0
IsFailedWait (Waited answer) = IsErr answer
IsFailedWait (Accepted answer) = ⊥
IsFailedWait (Read key piece answer) = ⊥
IsFailedWait (Wrote key octets answer) = ⊥
IsFailedWait (Closed key) = ⊥
IsFailedWait (Timed seconds) = ⊥
IsFailedWait (Fetched text answer) = ⊥
IsFailedWait (Ordered answer) = ⊥
IsFailedWait (Printed line) = ⊥
IsFailedWait (Logged report) = ⊥

abbrev pub IsFailedAccept : Call → Type 0
IsFailedAccept (Waited answer) = ⊥
IsFailedAccept (Accepted answer) = IsErr answer
IsFailedAccept (Read key piece answer) = ⊥
IsFailedAccept (Wrote key octets answer) = ⊥
IsFailedAccept (Closed key) = ⊥
IsFailedAccept (Timed seconds) = ⊥
IsFailedAccept (Fetched text answer) = ⊥
IsFailedAccept (Ordered answer) = ⊥
IsFailedAccept (Printed line) = ⊥
IsFailedAccept (Logged report) = ⊥

-- by this call the connection with this key is found to be lost: a read that is its last
abbrev pub FindsLost : ℕ → Call → Type 0
FindsLost key (Waited answer) = ⊥
FindsLost key (Accepted answer) = ⊥
FindsLost key (Read k piece answer) = (k ≡ key) × IsLastRead answer
FindsLost key (Wrote k octets answer) = ⊥
FindsLost key (Closed k) = ⊥
FindsLost key (Timed seconds) = ⊥
FindsLost key (Fetched text answer) = ⊥
FindsLost key (Ordered answer) = ⊥
FindsLost key (Printed line) = ⊥
FindsLost key (Logged report) = ⊥

-- by this call this connection has come
abbrev pub IsAccept : Incoming → Call → Type 0
IsAccept incoming call = call ≡ Accepted (Ok (Some incoming))

-- by this call the ports gave this order
abbrev pub IsOrder : Order → Call → Type 0
IsOrder order call = call ≡ Ordered (Some order)
