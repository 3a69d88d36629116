-- What lines say, wherever they stand in a trace.
use Rattle.std.specs.Prelude.{◌≡◌, ℕ, ◌+◌, List, [], ◌++◌, Option, Some, None}
use Rattle.rs_open.specs.declared.shutdown.ShutdownText.{ShutdownText}
use Rattle.rs_open.specs.Notes.{shutdown_text}
use Rattle.rs_trace.specs.Trace.{LineMeaning}
use Rattle.rs_trace.specs.Text.{lines_of, whole_lines, outcome, outcome_behind, behind, tells}
use Rattle.rs_record.specs.Accounts.{said_text}

-- These octets are whole lines without a fault. Behind the octets of a text they ask for this, whatever comes after them, and then these
-- octets of a text go on.
abbrev pub SaysOn : (List ℕ → Option ℕ) → List ℕ → List ℕ → List LineMeaning → List ℕ → Type 0
SaysOn place text octets meanings on =
    (n : ℕ) (later : List ℕ) → outcome_behind place text n (lines_of (octets ++ later)) ≡ behind meanings (outcome_behind place on (n + whole_lines octets) (lines_of later))

-- so where no text goes on
abbrev pub Says : (List ℕ → Option ℕ) → List ℕ → List LineMeaning → Type 0
Says place octets meanings = SaysOn place [] octets meanings []

-- a trace of such lines asks for just this
abbrev pub SaysAll : Type 0
SaysAll = (place : List ℕ → Option ℕ) (octets : List ℕ) (meanings : List LineMeaning) → Says place octets meanings → outcome place 1 (lines_of octets) ≡ tells meanings None

-- and such lines, one after the other, ask for what the ones and then the others ask for
abbrev pub SayInTurn : Type 0
SayInTurn = (place : List ℕ → Option ℕ) (xs ys : List ℕ) (before after : List LineMeaning) → Says place xs before → Says place ys after → Says place (xs ++ ys) (before ++ after)

-- each text of an operator is said as it is
abbrev pub TextsAreSaid : Type 0
TextsAreSaid = (octets : List ℕ) (text : ShutdownText) → shutdown_text octets ≡ Some text → said_text text ≡ text
