-- What is still to be sent to a client, by what was decided: at most so many octets.
use Rattle.std.specs.Prelude.{ℕ, ◌+◌, ◌*◌, ◌==◌, Bool, true, false, length, Option, Some, None}
use Rattle.std.specs.FinMap as fin
use Rattle.std.specs.FinSet as set
use Rattle.rs_open.specs.Notes.{limit_octets}
use Rattle.rs_open.specs.declared.short.Short.{Short}
use Rattle.rs_outlet.specs.declared.answers.Speech.{Speech}
use Rattle.rs_outlet.specs.Message.Next.{note_octets}
use Rattle.rs_outlet.specs.Views.{View, Prefixes}

-- a KEEPALIVE that is due (RFC 4271, 4.4)
abbrev pub keepalive_octets_due : Bool → ℕ
keepalive_octets_due false = 0
keepalive_octets_due true = 19

-- for each prefix that waits, the longest message that the client takes (RFC 4271, 4.1; RFC 8654, 4)
abbrev pub waiting_octets : Option Speech → ℕ → ℕ
waiting_octets None count = 0
waiting_octets (Some speech) count = count * limit_octets speech.limit

-- a NOTIFICATION that waits is the last message (RFC 4271, 4.5); else a KEEPALIVE and UPDATEs
abbrev pub owed_behind : Option Short → Bool → Option Speech → ℕ → ℕ
owed_behind (Some note) keepalive_due speech count = length (note_octets note)
owed_behind None keepalive_due speech count = keepalive_octets_due keepalive_due + waiting_octets speech count

-- the message in flight, and what is to go behind it
abbrev pub owed_by : View → ℕ
owed_by v = length v.flight + owed_behind v.note v.keepalive_due v.speech (fin.len v.waits)

abbrev pub is_none : Option Prefixes → Bool
is_none None = false
is_none (Some s) = set.len s == 0

-- nothing is touched: all is decided
abbrev pub is_decided_for : View → Bool
is_decided_for v = is_none v.touched
