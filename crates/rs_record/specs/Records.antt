-- How far a tape has a record of the steps of a link.
use Rattle.std.specs.Prelude.{◌≡◌, ℕ, Bool, true, false, List, [], ◌++◌, Option, Some, None}
use Rattle.rs_core.specs.Core.{client_count}
use Rattle.rs_core.specs.declared.route_server.Core.{Core}
use Rattle.rs_core.specs.Drives.Steps.{Step, HasStopped}
use Rattle.rs_core.specs.Drives.Courses.{Course, Continues}
use Rattle.rs_core.specs.Drives.Answers.{Drives}
use Rattle.rs_trace.specs.Trace.{LineMeaning}
use Rattle.rs_trace.specs.Replays.{place_in}
use Rattle.rs_trace.specs.declared.names.Names.{Names}
use Rattle.rs_record.specs.declared.event_lines.RecordFault.{RecordFault}
use Rattle.rs_record.specs.declared.recorder.Pending.{Pending}
use Rattle.rs_record.specs.Saying.{Says}
use Rattle.rs_record.specs.Accounts.{account, recorded}
use Rattle.rs_record.specs.Named.{count_of}

-- nothing failed, and the tape isn't over
abbrev pub goes : Option RecordFault → Bool → Bool
goes None false = true
goes None true = false
goes (Some fault) is_over = false

-- lines were put behind others, which say this
pub record AddsLines (names : Names) (line more_lines : List ℕ) (meanings : List LineMeaning) : Type 0 where
  pub lines : List ℕ
  pub is : more_lines ≡ line ++ lines
  pub says : Says (place_in names) lines meanings

-- These octets were added to what the tape held: the record of a front of the steps, which are the newest first.
pub record IsTaped (names : Names) (steps : List Step) (held holds : List ℕ) : Type 0 where
  pub added : List ℕ
  pub front : List Step
  pub rest : List Step
  pub parts : steps ≡ rest ++ front
  pub is : holds ≡ held ++ added
  pub says : Says (place_in names) added (recorded (count_of names) front)

-- with the lines that wait that is the account of the steps
pub record IsKept (names : Names) (steps : List Step) (added line : List ℕ) (pending : Pending) : Type 0 where
  pub says : Says (place_in names) (added ++ line) (account (count_of names) steps).said
  pub waits : pending ≡ (account (count_of names) steps).pending

-- where recording was over before, nothing was added, and it still is
abbrev pub StaysOver : Bool → Bool → List ℕ → List ℕ → Type 0
StaysOver went goes_on held holds = went ≡ false → (holds ≡ held) × (goes_on ≡ false)

-- The steps are recorded so far: as long as recording goes on, the tape and the lines that wait have their account.
pub record Keeps (names : Names) (went : Bool) (held : List ℕ) (steps : List Step) (fault : Option RecordFault) (is_over : Bool) (holds line : List ℕ) (pending : Pending) : Type 0 where
  pub taped : IsTaped names steps held holds
  pub kept : goes fault is_over ≡ true → IsKept names steps taped.added line pending
  pub over : StaysOver went (goes fault is_over) held holds

-- The tape has the record of a front of the steps: of all of them as long as recording goes on.
pub record IsRecord (names : Names) (went : Bool) (steps : List Step) (fault : Option RecordFault) (is_over : Bool) (held holds : List ℕ) : Type 0 where
  pub taped : IsTaped names steps held holds
  pub whole : goes fault is_over ≡ true → taped.rest ≡ []
  pub over : StaysOver went (goes fault is_over) held holds

-- A route server was driven by a link until that stopped: the clients are as many as they were, and what both did is a drive.
pub record IsDriven {L : Type 0} (happens : L → Step → L → Type 0) (core : Core) (link : L) (driven : Core) (stopped : L) : Type 0 where
  pub count : client_count driven ≡ client_count core
  pub led : HasStopped happens link stopped
  pub drives : Continues happens core link driven stopped Drives

-- a drive, and the record of its steps
pub record DrivesRecorded (names : Names) (went : Bool) (fault : Option RecordFault) (is_over : Bool) (held holds : List ℕ) (x y : Course) : Type 0 where
  pub drives : Drives x y
  pub more : List Step
  pub steps : y.steps ≡ more ++ x.steps
  pub are : IsRecord names went more fault is_over held holds
