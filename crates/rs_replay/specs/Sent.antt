-- What a text says of another server: what it sent to each client, up to a line of the trace.
use Rattle.std.specs.Prelude.{◌≡◌, ◌==◌, ◌+◌, nat_lt, ℕ, Bool, true, false, if◌then◌else◌, List, [], ◌∷◌, ◌++◌, Option, Some, None, Result, Ok, Err}
use Rattle.rs_core.specs.Run.Moves.{Move, config_in}
use Rattle.rs_core.specs.Run.Meaning.{hearing}
use Rattle.rs_core.specs.Session.Hearing.{mode_in}
use Rattle.rs_attrs.specs.declared.mode.Mode.{Mode}
use Rattle.rs_trace.specs.declared.trace.LineFault.{LineFault}
use Rattle.rs_trace.specs.Text.{lines_of}
use Rattle.rs_replay.specs.Findings.{Table}
use Rattle.rs_replay.specs.Sendings.{MeansSent, since_last}
use Rattle.rs_replay.specs.SentLines.{Said, Began, Gave, Behind, said_of}

-- what lines say, in order, and the number of the first line that has a fault, with that fault
pub record Account : Type 0 where
  pub entries : List Said
  pub fault : Option (ℕ × LineFault)

abbrev pub account : List Said → Option (ℕ × LineFault) → Account
account entries fault = record { entries = entries; fault = fault }

-- after these entries
abbrev pub behind : List Said → Account → Account
behind entries later = account (entries ++ later.entries) later.fault

-- what follows was sent behind a later line of the trace than this
abbrev pub is_later : ℕ → Said → Bool
is_later until (Began c) = false
is_later until (Gave c octets) = false
is_later until (Behind line) = nat_lt until line

-- what line n makes of the account of the lines after it
abbrev pub on_line : ℕ → Result (Option Said) LineFault → ℕ → Account → Account
on_line until (Err fault) n later = account [] (Some (n, fault))
on_line until (Ok None) n later = later
on_line until (Ok (Some said)) n later = if is_later until said then account [] None else behind (said ∷ []) later

-- the account of lines, of which the first has the number n, up to what was sent behind line `until` of the trace
abbrev pub account_of : (List ℕ → Option ℕ) → ℕ → ℕ → List (List ℕ) → Account
account_of place until n [] = account [] None
account_of place until n (line ∷ lines) = on_line until (said_of place line) n (account_of place until (n + 1) lines)

-- Of a text these octets were taken, and it has this account: however it goes on, and it doesn't where its end was found.
abbrev pub Says : (List ℕ → Option ℕ) → ℕ → List ℕ → Type 0 → Account → Type 0
Says place until taken over says = (more : List ℕ) → (over → more ≡ []) → account_of place until 1 (lines_of (taken ++ more)) ≡ says

-- ---- what was sent to each client

-- a connection to the client is there
abbrev pub begins : ℕ → Said → Bool
begins c (Began d) = c == d
begins c (Gave d octets) = false
begins c (Behind line) = false

-- the octets that are sent to it
abbrev pub given : ℕ → Said → List ℕ
given c (Began d) = []
given c (Gave d octets) = if c == d then octets else []
given c (Behind line) = []

-- the octets that were sent on its last connection
abbrev pub sent_to : List Said → ℕ → List ℕ
sent_to entries c = since_last (begins c) (given c) entries

-- The table that was sent to a client on its last connection, in the mode of its session after the run (RFC 6793, 3); none where it
-- can't be read.
pub record IsSent (run : List Move) (entries : List Said) (c : ℕ) (table : Option Table) : Type 0 where
  pub mode : Mode
  pub is_mode : mode_in (config_in run) c (hearing c run) ≡ Some mode
  pub means : MeansSent mode (sent_to entries c) table
