-- What a replay did, the newest first, and what that comes to.
use Rattle.std.specs.Prelude.{◌≡◌, ◌⊎◌, ℕ, ◌+◌, List, [], ◌∷◌, ◌++◌, length, min, codes, Bool, true, false, Option, Some, None, Result, Ok, Err, ⊤}
use Rattle.rs_policy.specs.declared.faults.RulesFault.{RulesFault}
use Rattle.rs_policy.specs.FaultTexts.{rules_fault_text}
use Rattle.rs_core.specs.declared.links.Event.{Event}
use Rattle.rs_core.specs.declared.links.Event.TheVariants as events
use Rattle.rs_core.specs.Drives.Steps as links
use Rattle.rs_trace.specs.declared.fault.ReplayFault.TheVariants.{Line, Memory, Reading, Writing}
use Rattle.rs_trace.specs.declared.fault.Stop.{Stop}
use Rattle.rs_trace.specs.declared.fault.Stop.TheVariants.{End, Table, Fault}
use Rattle.rs_trace.specs.declared.trace_lines.TraceLines.{TraceLines}
use Rattle.rs_trace.specs.Output.{client_line, sent_line, accepted_line, refused_line}
use Rattle.rs_trace.specs.Trace.{LineMeaning, Opened, Heard, Offered, Passed, Turned, Left, Commanded, Replaced, Listed}
use Rattle.rs_trace.specs.Text.{lines_of, whole_lines, outcome, outcome_behind, tells, behind, IsRead}

pub data Act : Type 0 where
  -- the core's link did a step
  Did : (step : links.Step) → Act
  -- the routes of a client were written, in these lines
  ListedRoutes : (c : ℕ) (listed_lines : List ℕ) → Act

-- the line of the trace that an event comes from; a stop comes from none
abbrev pub meaning_of_event : Event → List ℕ → List LineMeaning
meaning_of_event (events.Opened c) octets = Opened c ∷ []
meaning_of_event (events.Octets c n) octets = Heard c octets ∷ []
meaning_of_event (events.Moment t) octets = Passed t ∷ []
meaning_of_event events.Turn octets = Turned ∷ []
meaning_of_event (events.Room c n) octets = Offered c n ∷ []
meaning_of_event (events.Lost c) octets = Left c ∷ []
meaning_of_event (events.Commanded c command) octets = Commanded c command ∷ []
meaning_of_event events.Rules octets = Replaced octets ∷ []
meaning_of_event events.Stop octets = []

abbrev pub meaning_at : links.Step → List LineMeaning
meaning_at (links.Happened event octets) = meaning_of_event event octets
meaning_at (links.Begin c) = []
meaning_at (links.Busy c) = []
meaning_at (links.Offer c octets answer) = []
meaning_at (links.Memory c) = []
meaning_at (links.End c) = []
meaning_at (links.Replaced answer) = []

-- the lines of the trace that were done, in their order
abbrev pub lines_done : List Act → List LineMeaning
lines_done [] = []
lines_done (Did step ∷ acts) = lines_done acts ++ meaning_at step
lines_done (ListedRoutes c listed_lines ∷ acts) = lines_done acts ++ (Listed c ∷ [])

abbrev pub rules_line : Result (Unit {0}) RulesFault → List ℕ
rules_line (Ok done) = accepted_line
rules_line (Err fault) = refused_line (rules_fault_text fault)

-- the line of output that a step writes, if any
abbrev pub line_at : (ℕ → List ℕ) → links.Step → List ℕ
line_at name (links.Happened event octets) = []
line_at name (links.Begin c) = []
line_at name (links.Busy c) = client_line (codes "busy") (name c)
line_at name (links.Offer c octets answer) = sent_line (name c) octets
line_at name (links.Memory c) = client_line (codes "memory") (name c)
line_at name (links.End c) = client_line (codes "close") (name c)
line_at name (links.Replaced answer) = rules_line answer

-- the output of what was done
abbrev pub written : (ℕ → List ℕ) → List Act → List ℕ
written name [] = []
written name (Did step ∷ acts) = written name acts ++ line_at name step
written name (ListedRoutes c listed_lines ∷ acts) = written name acts ++ listed_lines

-- of an offer all was taken
abbrev pub TookAll : links.Step → Type 0
TookAll (links.Happened event octets) = ⊤
TookAll (links.Begin c) = ⊤
TookAll (links.Busy c) = ⊤
TookAll (links.Offer c octets answer) = answer ≡ Some (length octets)
TookAll (links.Memory c) = ⊤
TookAll (links.End c) = ⊤
TookAll (links.Replaced answer) = ⊤

abbrev pub AllTookAll : List Act → Type 0
AllTookAll [] = ⊤
AllTookAll (Did step ∷ acts) = AllTookAll acts × TookAll step
AllTookAll (ListedRoutes c listed_lines ∷ acts) = AllTookAll acts

-- the steps of the core's link among acts
abbrev pub steps_of : List Act → List links.Step
steps_of [] = []
steps_of (Did step ∷ acts) = step ∷ steps_of acts
steps_of (ListedRoutes c listed_lines ∷ acts) = steps_of acts

-- What a reader of lines has still to give, with whatever may come, is what the text says after these meanings and the octets of a
-- text that goes on. n lines were read.
abbrev pub FollowsOn : (List ℕ → Option ℕ) → List ℕ → List LineMeaning → ℕ → TraceLines → Type 0
FollowsOn place text meanings n r =
    (more : List ℕ) → (r.lines.is_over ≡ true → more ≡ []) → outcome place 1 (lines_of (text ++ more)) ≡ behind meanings (outcome_behind place r.text.items (n + 1) (lines_of (r.lines.rest ++ more)))

-- the lines that were read are those that are whole, unless the last was not
abbrev pub AreWhole : List ℕ → ℕ → TraceLines → Type 0
AreWhole text n r = (whole_lines text ≡ n + whole_lines r.lines.rest) ⊎ (r.lines.is_over ≡ true)

-- the text says these first
abbrev pub MeansFirst : (List ℕ → Option ℕ) → List ℕ → List LineMeaning → Type 0
MeansFirst place text meanings = (others : List LineMeaning) × ((outcome place 1 (lines_of text)).meanings ≡ meanings ++ others)

-- so far no line had a fault
abbrev pub GoesOn : (List ℕ → Option ℕ) → List ℕ → Type 0 → List LineMeaning → ℕ → TraceLines → Type 0
GoesOn place text over meanings n r = FollowsOn place text meanings n r × (r.lines.is_over ≡ true → over) × AreWhole text n r

-- The text was read so far: what its lines have meant, and where the reading stands. `over` says that nothing more comes.
abbrev pub Stands : (List ℕ → Option ℕ) → List ℕ → Type 0 → List LineMeaning → ℕ → TraceLines → Option Stop → Type 0
Stands place text over meanings n r None = GoesOn place text over meanings n r
Stands place text over meanings n r (Some End) = (outcome place 1 (lines_of text) ≡ tells meanings None) × over
Stands place text over meanings n r (Some (Table c)) = GoesOn place text over (meanings ++ (Listed c ∷ [])) n r
Stands place text over meanings n r (Some (Fault (Line m fault))) =
    (outcome place 1 (lines_of text) ≡ tells meanings (Some (m, fault))) × IsRead text m fault over
Stands place text over meanings n r (Some (Fault Memory)) = MeansFirst place text meanings
Stands place text over meanings n r (Some (Fault Reading)) = MeansFirst place text meanings
Stands place text over meanings n r (Some (Fault Writing)) = MeansFirst place text meanings

-- a front of these octets was put
abbrev pub PutsFront : (List ℕ → Type 0) → List ℕ → Type 0
PutsFront put octets = (front rest : List ℕ) × (octets ≡ front ++ rest) × put front

-- These octets were put: all of them, or after a failure a front.
abbrev pub Puts : (List ℕ → Type 0) → List ℕ → Option Stop → Type 0
Puts put octets None = put octets
Puts put octets (Some End) = put octets
Puts put octets (Some (Table c)) = put octets
Puts put octets (Some (Fault (Line m fault))) = put octets
Puts put octets (Some (Fault Memory)) = PutsFront put octets
Puts put octets (Some (Fault Reading)) = PutsFront put octets
Puts put octets (Some (Fault Writing)) = PutsFront put octets

-- a failure came, and nothing is written any more
abbrev pub failed : Option Stop → Bool
failed None = false
failed (Some End) = false
failed (Some (Table c)) = false
failed (Some (Fault (Line m fault))) = false
failed (Some (Fault Memory)) = true
failed (Some (Fault Reading)) = true
failed (Some (Fault Writing)) = true

-- one failure more, up to the greatest count
abbrev pub more_failures : ℕ → ℕ
more_failures n = min (n + 1) 18446744073709551615

abbrev pub failures_read : Option Stop → ℕ → ℕ
failures_read None n = n
failures_read (Some End) n = n
failures_read (Some (Table c)) n = n
failures_read (Some (Fault (Line m fault))) n = n
failures_read (Some (Fault Memory)) n = n
failures_read (Some (Fault Reading)) n = more_failures n
failures_read (Some (Fault Writing)) n = n

abbrev pub failures_written : Option Stop → ℕ → ℕ
failures_written None n = n
failures_written (Some End) n = n
failures_written (Some (Table c)) n = n
failures_written (Some (Fault (Line m fault))) n = n
failures_written (Some (Fault Memory)) n = n
failures_written (Some (Fault Reading)) n = n
failures_written (Some (Fault Writing)) n = more_failures n
