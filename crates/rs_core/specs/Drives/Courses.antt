-- How a link and a route server go on together: what has passed between them, what it means, and the route server at hand.
use Rattle.std.specs.Prelude.{◌≡◌, ℕ, List, [], ◌∷◌, take}
use Rattle.rs_core.specs.Run.Moves.{Move, Left, Began, Took}
use Rattle.rs_core.specs.Drives.Steps.{Step, HasLed, Leads, Memory}
use Rattle.rs_core.specs.Core.{client_count, lent_octets}
use Rattle.rs_core.specs.Run.Agreeing.{Agrees}
use Rattle.rs_core.specs.Owed.Sending.{HasLent, HasTaken, LeavesOwed}
use Rattle.rs_core.specs.declared.route_server.Core.{Core}

-- the steps of a link, and the run that they make, each the newest first; and the route server at hand, which agrees with that
-- run
pub record Course : Type 0 where
  pub steps : List Step
  pub run : List Move
  pub core : Core
  pub agrees : Agrees core run

abbrev pub course : (core : Core) (steps : List Step) (run : List Move) → Agrees core run → Course
course core steps run agrees = record { steps = steps; run = run; core = core; agrees = agrees }

-- ---- one step more

-- one by which nothing befalls the route server
abbrev pub called : Step → Course → Course
called step x = record { steps = step ∷ x.steps; run = x.run; core = x.core; agrees = x.agrees }

-- memory was refused for these clients, which were reported to the sink one after the other
abbrev pub memories : List ℕ → List Step → List Step
memories [] steps = steps
memories (c ∷ cs) steps = Memory c ∷ memories cs steps

abbrev pub remembered : List ℕ → Course → Course
remembered cs x = record { steps = memories cs x.steps; run = x.run; core = x.core; agrees = x.agrees }

-- ---- one move more

-- by this move, on the run before it, one route server became the other
pub record Becomes (move : Move) (run : List Move) (old new : Core) : Type 0 where
  pub count : client_count new ≡ client_count old
  pub agrees : Agrees new (move ∷ run)

-- so by the loss of a client's connection, which leaves what is owed to the others
pub record IsLost (c : ℕ) (run : List Move) (old new : Core) : Type 0 where
  pub becomes : Becomes (Left c) run old new
  pub owed : LeavesOwed c old new

abbrev pub moved : (move : Move) (x : Course) (core : Core) → Becomes move x.run x.core core → Course
moved move x core becomes = record { steps = x.steps; run = move ∷ x.run; core = core; agrees = becomes.agrees }

-- the next message to a client began where none was in flight
abbrev pub began : (c : ℕ) (x : Course) (core : Core) → HasLent c x.core (lent_octets core c) core → Course
began c x core lent = moved (Began c) x core (record { count = lent.count; agrees = lent.began x.run x.agrees })

-- so many octets of what is lent to it were taken
abbrev pub took : (c k : ℕ) (x : Course) (core : Core) → HasTaken c k x.core core → Course
took c k x core taken = moved (Took c (take k (lent_octets x.core c))) x core (record { count = taken.count; agrees = taken.took x.run x.agrees })

-- ---- how the two go on

-- steps led from the first link to this one, and made a course with this route server for which this holds
pub record Reaches {L : Type 0} (happens : L → Step → L → Type 0) (first : L) (core : Core) (link : L) (Is : Course → Type 0) : Type 0 where
  pub steps : List Step
  pub run : List Move
  pub agrees : Agrees core run
  pub leads : Leads happens first steps link
  pub is : Is (course core steps run agrees)

-- wherever the first route server and the first link stand in a course, the other two stand so much further on
pub record Continues {L : Type 0} (happens : L → Step → L → Type 0) (old : Core) (before : L) (new : Core) (after : L) (By : Course → Course → Type 0) : Type 0 where
  pub on : (first : L) (steps : List Step) (run : List Move) (agrees : Agrees old run) → Leads happens first steps before
      → Reaches happens first new after (By (course old steps run agrees))

-- so with as many clients, by steps none of which is a stop
pub record HasContinued {L : Type 0} (happens : L → Step → L → Type 0) (old : Core) (before : L) (new : Core) (after : L) (By : Course → Course → Type 0) : Type 0 where
  pub count : client_count new ≡ client_count old
  pub led : HasLed happens before after
  pub continues : Continues happens old before new after By
