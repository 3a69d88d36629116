-- What is found where what another server sent is held against what is due, and the lines that say it.
use Rattle.std.specs.Prelude.{◌≡◌, ◌==◌, ◌+◌, ◌++◌, ℕ, Bool, true, false, List, [], ◌∷◌, Option, Some, None, length, count_by, codes, decimal, ⊤}
use Rattle.std.specs.List.{flat_map, list_all}
use Rattle.rs_octets.specs.Prefixes.{Prefix}
use Rattle.rs_attrs.specs.Meaning.{Attribute}
use Rattle.rs_core.specs.Run.Moves.{Move}
use Rattle.rs_core.specs.Run.Meaning.{dues, is_established}
use Rattle.rs_core.specs.Told.Points.{latest}
use Rattle.rs_compare.specs.declared.compared.Kind.{Kind}
use Rattle.rs_compare.specs.declared.compared.Kind.TheVariants.{Missing, NotDue, OtherAttributes}
use Rattle.rs_compare.specs.Differences.{AreDifferences}
use Rattle.rs_compare.specs.Heard.{Lists}
use Rattle.rs_trace.specs.Output.{client_line, prefix_text}

abbrev pub Table : Type 0
Table = Prefix → Option (List Attribute)

-- what is found of a client that is Established: what was sent to it can't be read; or so many routes are due to it, so many were
-- sent to it, and the two tables differ so
pub data Finding : Type 0 where
  Unreadable : Finding
  Compared : (due sent : ℕ) (found : List (Prefix × Kind)) → Finding

-- a table has so many routes
pub record HasRoutes (table : Table) (count : ℕ) : Type 0 where
  pub routes : List (Prefix × List Attribute)
  pub lists : Lists routes table
  pub counted : count ≡ length routes

pub record AreCompared (due sent : Table) (due_count sent_count : ℕ) (found : List (Prefix × Kind)) : Type 0 where
  pub has_due : HasRoutes due due_count
  pub has_sent : HasRoutes sent sent_count
  pub differ : AreDifferences due sent found

-- what is found of these tables; what was sent is none where it can't be read
abbrev pub IsFinding : Table → Option Table → Finding → Type 0
IsFinding due None Unreadable = ⊤
IsFinding due None (Compared due_count sent_count found) = ⊥
IsFinding due (Some sent) Unreadable = ⊥
IsFinding due (Some sent) (Compared due_count sent_count found) = AreCompared due sent due_count sent_count found

-- What is found of the first so many clients, by their places: of each that is Established after the run, what was due to it at its
-- last turn is held against the table that was sent to it; of another nothing. `IsSent` says which table that is.
pub data AreFindings (run : List Move) (IsSent : ℕ → Option Table → Type 0) : ℕ → List (ℕ × Finding) → Type 0 where
  OfNone : AreFindings run IsSent 0 []
  Down : (c : ℕ) (findings : List (ℕ × Finding)) → AreFindings run IsSent c findings → is_established run c ≡ false → AreFindings run IsSent (c + 1) findings
  Up : (c : ℕ) (findings : List (ℕ × Finding)) (finding : Finding) (sent : Option Table) → AreFindings run IsSent c findings → is_established run c ≡ true
      → IsSent c sent → IsFinding (λ p. latest (dues run c p)) sent finding → AreFindings run IsSent (c + 1) (findings ++ (c, finding) ∷ [])

-- ---- the lines

abbrev pub word_of : Kind → List ℕ
word_of Missing = codes "missing "
word_of NotDue = codes "not-due "
word_of OtherAttributes = codes "other "

-- a difference, as `missing NAME PREFIX`
abbrev pub difference_line : List ℕ → Prefix × Kind → List ℕ
difference_line name difference = word_of difference.1 ++ name ++ codes " " ++ prefix_text difference.0 ++ (10 ∷ [])

abbrev pub same_kind : Kind → Kind → Bool
same_kind Missing Missing = true
same_kind NotDue NotDue = true
same_kind OtherAttributes OtherAttributes = true
same_kind _ _ = false

-- how many of the differences are of this kind
abbrev pub count_of : Kind → List (Prefix × Kind) → ℕ
count_of kind found = count_by (λ difference. same_kind difference.1 kind) found

-- `compared NAME: ..`, with how many routes are due and were sent, and how many are missing, are not due and have other attributes
abbrev pub compared_line : List ℕ → ℕ → ℕ → ℕ → ℕ → ℕ → List ℕ
compared_line name due sent missing not_due other =
    codes "compared " ++ name ++ codes ": " ++ decimal due ++ codes " due, " ++ decimal sent ++ codes " sent, " ++ decimal missing ++ codes " missing, "
    ++ decimal not_due ++ codes " not due, " ++ decimal other ++ codes " with other attributes" ++ (10 ∷ [])

-- what is found of the client of this name: its differences, or that what was sent can't be read
abbrev pub finding_lines : List ℕ → Finding → List ℕ
finding_lines name Unreadable = client_line (codes "unreadable") name
finding_lines name (Compared due sent found) = flat_map (difference_line name) found

-- its row, where what was sent can be read
abbrev pub finding_row : List ℕ → Finding → List ℕ
finding_row name Unreadable = []
finding_row name (Compared due sent found) = compared_line name due sent (count_of Missing found) (count_of NotDue found) (count_of OtherAttributes found)

-- of all clients, by their names, first what is found and then the rows
abbrev pub told : (ℕ → List ℕ) → List (ℕ × Finding) → List ℕ
told name findings = flat_map (λ f. finding_lines (name f.0) f.1) findings ++ flat_map (λ f. finding_row (name f.0) f.1) findings

abbrev pub is_same : Finding → Bool
is_same Unreadable = false
is_same (Compared due sent found) = length found == 0

-- all that was sent can be read, and nothing differs
abbrev pub nothing_differs : List (ℕ × Finding) → Bool
nothing_differs findings = list_all (λ f. is_same f.1) findings
