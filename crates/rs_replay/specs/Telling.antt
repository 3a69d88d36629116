-- How findings are told: what was written of them so far, and what was counted.
use Rattle.std.specs.Prelude.{◌≡◌, ◌==◌, ◌&&◌, ℕ, Bool, true, false, List, [], Option, Some, None, slice_get, ⊤, if◌then◌else◌}
use Rattle.std.specs.List.{flat_map}
use Rattle.rs_octets.specs.Prefixes.{Prefix}
use Rattle.rs_core.specs.Core.{client_count}
use Rattle.rs_core.specs.Run.Agreeing.{Agrees}
use Rattle.rs_core.specs.Run.Moves.{Move}
use Rattle.rs_core.specs.declared.route_server.Core.{Core}
use Rattle.rs_compare.specs.declared.compared.Kind.{Kind}
use Rattle.rs_compare.specs.declared.compared.Kind.TheVariants.{Missing, NotDue, OtherAttributes}
use Rattle.rs_compare.specs.Heard.{table_in}
use Rattle.rs_trace.specs.declared.names.Names.{Names}
use Rattle.rs_trace.specs.Replays.{name_in}
use Rattle.rs_replay.specs.declared.connection.Connection.{Connection}
use Rattle.rs_replay.specs.declared.findings.Counts.{Counts}
use Rattle.rs_replay.specs.declared.findings.Row.{Row}
use Rattle.rs_replay.specs.Findings.{AreFindings, Compared, Finding, Table, Unreadable, compared_line, count_of, finding_lines, finding_row, nothing_differs, told}

-- the table that was sent on a connection; none where something can't be read
abbrev pub sent_on : Connection → Option Table
sent_on connection = if connection.is_readable then Some (table_in connection.sent) else None

abbrev pub sent_if : Option Connection → Option Table
sent_if None = None
sent_if (Some connection) = sent_on connection

abbrev pub sent_by : List Connection → ℕ → Option Table
sent_by connections c = sent_if (slice_get connections c)

-- the table is the one that was sent on the client's connection
abbrev pub IsSentBy : List Connection → ℕ → Option Table → Type 0
IsSentBy connections c sent = sent ≡ sent_by connections c

-- so many differences of each kind, and so many routes
pub record AreCounts (due sent : ℕ) (found : List (Prefix × Kind)) (counts : Counts) : Type 0 where
  pub of_due : counts.due ≡ due
  pub of_sent : counts.sent ≡ sent
  pub of_missing : counts.missing ≡ count_of Missing found
  pub of_not_due : counts.not_due ≡ count_of NotDue found
  pub of_other : counts.other ≡ count_of OtherAttributes found

-- there are counts where there is something to count
abbrev pub HasCounts : Finding → Option Counts → Type 0
HasCounts Unreadable None = ⊤
HasCounts Unreadable (Some counts) = ⊥
HasCounts (Compared due sent found) None = ⊥
HasCounts (Compared due sent found) (Some counts) = AreCounts due sent found counts

abbrev pub counts_line : List ℕ → Counts → List ℕ
counts_line name counts = compared_line name counts.due counts.sent counts.missing counts.not_due counts.other

-- the row of a client, where there are counts
abbrev pub counted_row : List ℕ → Option Counts → List ℕ
counted_row name None = []
counted_row name (Some counts) = counts_line name counts

-- there are counts, and nothing differs
abbrev pub agrees_by : Option Counts → Bool
agrees_by None = false
agrees_by (Some counts) = counts.missing == 0 && counts.not_due == 0 && counts.other == 0

abbrev pub row_line : (ℕ → List ℕ) → Row → List ℕ
row_line name row = counts_line (name row.client) row.counts

-- What is found of the first c clients was written, but for the rows, and whether nothing differs so far.
pub record TellsUpTo {W : Type 0} (puts : W → List ℕ → W → Type 0) (core : Core) (names : Names) (connections : List Connection) (to : W)
    (c : ℕ) (rows : List Row) (same : Bool) (writer : W) : Type 0 where
  pub findings : List (ℕ × Finding)
  pub are : (run : List Move) → Agrees core run → AreFindings run (IsSentBy connections) c findings
  pub put : puts to (flat_map (λ f. finding_lines (name_in names f.0) f.1) findings) writer
  pub rows_are : flat_map (row_line (name_in names)) rows ≡ flat_map (λ f. finding_row (name_in names f.0) f.1) findings
  pub same_is : same ≡ nothing_differs findings

-- What is found of all clients was written, and this is whether nothing differs. `IsSent` says which table was sent to a client.
pub record Tells {W : Type 0} (puts : W → List ℕ → W → Type 0) (core : Core) (names : Names) (IsSent : List Move → ℕ → Option Table → Type 0) (to : W)
    (same : Bool) (writer : W) : Type 0 where
  pub findings : List (ℕ × Finding)
  pub are : (run : List Move) → Agrees core run → AreFindings run (IsSent run) (client_count core) findings
  pub put : puts to (told (name_in names) findings) writer
  pub same_is : same ≡ nothing_differs findings
