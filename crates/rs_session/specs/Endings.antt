-- What ends a session, and with which NOTIFICATION (RFC 4271, 6).
use Rattle.std.specs.Prelude.{ℕ, zero, suc, ◌-◌, ◌/◌, ◌%◌, Bool, not, ◌&&◌, nat_eq, nat_le, ◌≤◌, min, length, take, Option, Some, None, Result, Ok, Err, ⊤, if◌then◌else◌}
use Rattle.rs_octets.specs.declared.heads.HeaderFault.{HeaderFault}
use Rattle.rs_octets.specs.declared.heads.HeaderFault.TheVariants as header
use Rattle.rs_octets.specs.declared.notification.Notification.TheVariants as names
use Rattle.rs_octets.specs.Names.{code_of, sub_of}
use Rattle.rs_open.specs.Notes.{note, note_of, note_1, note_2, shutdown_note}
use Rattle.rs_open.specs.declared.open.Open.{Open}
use Rattle.rs_open.specs.declared.open.OpenFault.{OpenFault}
use Rattle.rs_open.specs.declared.open.OpenFault.TheVariants as fault
use Rattle.rs_open.specs.declared.short.Short.{Short}
use Rattle.rs_open.specs.declared.short.Short.TheVariants as short
use Rattle.rs_session.specs.declared.command.Command.{Command}
use Rattle.rs_session.specs.declared.command.Command.TheVariants as commands
use Rattle.rs_session.specs.declared.heard.Heard.{Heard}
use Rattle.rs_session.specs.declared.heard.Heard.TheVariants as heard

pub data Fate : Type 0 where
  GoesOn : Fate
  Ends : (note : Option Short) → Fate  -- with this NOTIFICATION, or with none

-- a faulty header (RFC 4271, 6.1)
abbrev pub header_note : HeaderFault → Short
header_note header.Marker = note_of names.ConnectionNotSynchronized
header_note (header.Length length) = note_2 (code_of names.BadMessageLength) (sub_of names.BadMessageLength) (length / 256) (length % 256)
header_note (header.Kind kind) = note_1 (code_of names.BadMessageType) (sub_of names.BadMessageType) kind

-- the AS number of an OPEN is the client's: that of the capability where it is there (RFC 6793, 4.1), else My AS
abbrev pub is_from_as : ℕ → ℕ → Option ℕ → Bool
is_from_as peer_as my_as (Some four) = nat_eq four peer_as
is_from_as peer_as my_as None = nat_eq my_as peer_as

-- the OPEN of another AS
abbrev pub bad_peer_as : Short
bad_peer_as = note_of names.BadPeerAs

-- the first thing that is wrong with an OPEN (RFC 4271, 6.2): the version, the parameters, the AS number, the Hold Time,
-- the identifier
abbrev pub open_note : ℕ → OpenFault → Short
open_note peer_as fault.Version = note_2 (code_of names.UnsupportedVersionNumber) (sub_of names.UnsupportedVersionNumber) 0 4
open_note peer_as fault.Malformed = note_of names.OpenMessageError
open_note peer_as fault.Parameter = note_of names.UnsupportedOptionalParameter
open_note peer_as (fault.Hold my_as four) = if is_from_as peer_as my_as four then note_of names.UnacceptableHoldTime else bad_peer_as
open_note peer_as (fault.Identifier my_as four) = if is_from_as peer_as my_as four then note_of names.BadBgpIdentifier else bad_peer_as

abbrev pub open_fate : ℕ → Result Open OpenFault → Fate
open_fate peer_as (Ok sent) = if is_from_as peer_as sent.my_as sent.four then GoesOn else Ends (Some bad_peer_as)
open_fate peer_as (Err fault) = Ends (Some (open_note peer_as fault))

-- a message that is not expected (RFC 4271, 6.6)
abbrev pub unexpected : Short
unexpected = note_of names.FiniteStateMachineError

-- the first message: an OPEN
abbrev pub first_fate : ℕ → Heard → Fate
first_fate peer_as (heard.Header fault) = Ends (Some (header_note fault))
first_fate peer_as heard.Note = Ends None
first_fate peer_as (heard.Open read) = open_fate peer_as read
first_fate peer_as (heard.Update reset) = Ends (Some unexpected)
first_fate peer_as (heard.Refresh afi safi) = Ends (Some unexpected)
first_fate peer_as heard.Keepalive = Ends (Some unexpected)

-- the second: a KEEPALIVE
abbrev pub second_fate : Heard → Fate
second_fate (heard.Header fault) = Ends (Some (header_note fault))
second_fate heard.Note = Ends None
second_fate (heard.Open read) = Ends (Some unexpected)
second_fate (heard.Update reset) = Ends (Some unexpected)
second_fate (heard.Refresh afi safi) = Ends (Some unexpected)
second_fate heard.Keepalive = GoesOn

-- each later one: any but an OPEN; an UPDATE may be a session reset
abbrev pub later_fate : Heard → Fate
later_fate (heard.Header fault) = Ends (Some (header_note fault))
later_fate heard.Note = Ends None
later_fate (heard.Open read) = Ends (Some unexpected)
later_fate (heard.Update None) = GoesOn
later_fate (heard.Update (Some reset)) = Ends (Some (note reset.0 reset.1))
later_fate (heard.Refresh afi safi) = GoesOn
later_fate heard.Keepalive = GoesOn

-- a message after so many others
abbrev pub message_fate : ℕ → ℕ → Heard → Fate
message_fate peer_as zero message = first_fate peer_as message
message_fate peer_as (suc zero) message = second_fate message
message_fate peer_as (suc (suc count)) message = later_fate message

-- the seconds that we wait for the OPEN (RFC 4271, 8.2.2, suggests four minutes)
abbrev pub open_wait : ℕ
open_wait = 240

-- the seconds that may pass with none of the messages that restart the hold timer: those before the OPEN, then the
-- smaller of the two Hold Times (RFC 4271, 4.2); 0: any number
abbrev pub hold_time : ℕ → Option Open → ℕ
hold_time hold None = open_wait
hold_time hold (Some sent) = min hold sent.hold

-- that many seconds or more have passed
abbrev pub is_past : ℕ → ℕ → ℕ → Bool
is_past time since now = not (nat_eq time 0) && nat_le time (now - since)

-- the hold timer has run out (RFC 4271, 6.5)
abbrev pub expired : Short
expired = note_of names.HoldTimerExpired

abbrev pub moment_fate : ℕ → ℕ → ℕ → Fate
moment_fate time since now = if is_past time since now then Ends (Some expired) else GoesOn

-- the operator ends the session (RFC 4271, 8.2.2, ManualStop)
abbrev pub command_fate : Command → Fate
command_fate (commands.Stop text) = Ends (Some (shutdown_note text))
command_fate commands.Refresh = GoesOn

-- ---- what is said at an end

-- a NOTIFICATION with at most 129 octets of data
abbrev pub IsBrief : Short → Type 0
IsBrief short.Open = ⊥
IsBrief short.Keepalive = ⊥
IsBrief (short.Note code sub extra count) = length (take count extra) ≤ 129

-- such a one, or nothing
abbrev pub IsBriefEnd : Option Short → Type 0
IsBriefEnd None = ⊤
IsBriefEnd (Some said) = IsBrief said
