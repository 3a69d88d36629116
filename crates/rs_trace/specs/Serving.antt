-- What the clients of a route server are sent in a replay.
use Rattle.std.specs.Prelude.{◌≡◌, ◌==◌, ◌<◌, ◌≤◌, ℕ, true, List, [], ◌∷◌, ◌++◌, if◌then◌else◌}
use Rattle.rs_policy.specs.Configuration.{Configuration}
use Rattle.rs_core.specs.Run.Meaning.{is_established}
use Rattle.rs_core.specs.Core.{client_count, owed}
use Rattle.rs_core.specs.Drives.Steps.{Happened, Begin, Busy, Offer, Memory, End, Replaced}
use Rattle.rs_core.specs.Drives.Courses.{Course, called}
use Rattle.rs_core.specs.Drives.Answers.{Gives, EndsAll}
use Rattle.rs_core.specs.Drives.Serving.{taken_by}
use Rattle.rs_core.specs.Owed.Draining.{IsDrained, TurnsFor}
use Rattle.rs_core.specs.Headline.{HasWhatIsDue, HasCome}
use Rattle.rs_core.specs.declared.links.Event.TheVariants as events
use Rattle.rs_trace.specs.Played.{Act, Did, ListedRoutes, AllTookAll, steps_of}
use Rattle.rs_trace.specs.Replays.{HasRun}

-- ---- a replay is one course

-- from the start on a route server and a link came to this course in drives, one after the other, by just the steps that were done
pub record IsCourseOf (settings : Configuration) (acts : List Act) (x : Course) : Type 0 where
  pub come : HasCome settings x
  pub steps : x.steps ≡ steps_of acts

abbrev pub ReplaysAreCourses : Type 0
ReplaysAreCourses = (settings : Configuration) (name : ℕ → List ℕ) (acts : List Act) (x : Course) → HasRun settings name acts x → IsCourseOf settings acts x

-- ---- what was sent

-- the octets of a client's `sent` lines, since its connection was last begun
abbrev pub sent_to : ℕ → List Act → List ℕ
sent_to c [] = []
sent_to c (ListedRoutes d listed_lines ∷ acts) = sent_to c acts
sent_to c (Did (Happened event octets) ∷ acts) = sent_to c acts
sent_to c (Did (Begin d) ∷ acts) = if d == c then [] else sent_to c acts
sent_to c (Did (Busy d) ∷ acts) = sent_to c acts
sent_to c (Did (Offer d octets answer) ∷ acts) = if d == c then sent_to c acts ++ octets else sent_to c acts
sent_to c (Did (Memory d) ∷ acts) = sent_to c acts
sent_to c (Did (End d) ∷ acts) = sent_to c acts
sent_to c (Did (Replaced answer) ∷ acts) = sent_to c acts

-- A client has what is due to it, by what its link took of the offers; and that is what its `sent` lines say.
pub record IsServedIn (acts : List Act) (x : Course) (c : ℕ) : Type 0 where
  pub served : HasWhatIsDue x c
  pub sent : taken_by c x.steps ≡ sent_to c acts

-- at each point of a replay, and so at its end, each drained client has what is due to it
abbrev pub ReplaysServe : Type 0
ReplaysServe = (settings : Configuration) (name : ℕ → List ℕ) (acts : List Act) (x : Course) → HasRun settings name acts x → AllTookAll acts → (c : ℕ) → IsDrained x c → IsServedIn acts x c

-- ---- a turn, and room

-- room for so many octets to client d, and the ends after it
pub record GivesRoom (d room : ℕ) (x y : Course) : Type 0 where
  pub octets : List ℕ
  pub given : Course
  pub gives : Gives d room (called (Happened (events.Room d room) octets) x) given
  pub ends : EndsAll given y

-- so for any clients, one after the other
pub data GivesRooms (x : Course) : Course → Type 0 where
  NoRoom : GivesRooms x x
  MoreRoom : (d room : ℕ) (y z : Course) → GivesRooms x y → GivesRoom d room y z → GivesRooms x z

-- a turn, at which memory was not refused for client c, which was Established; then room for any clients; then room for client c, of at
-- least what was owed to it; then a stop
pub record EndsInRoom (c : ℕ) (x : Course) : Type 0 where
  pub before : Course
  pub turned : Course
  pub given : Course
  pub after : Course
  pub room : ℕ
  pub octets : List ℕ
  pub client : c < client_count before.core
  pub established : is_established before.run c ≡ true
  pub turns : TurnsFor c before turned
  pub rooms : GivesRooms turned given
  pub enough : owed given.core c ≤ room
  pub own : GivesRoom c room given after
  pub stop : x ≡ called (Happened events.Stop octets) after

-- where a replay comes to that, the client is drained, and so it has what is due to it
pub record LeavesServed (acts : List Act) (x : Course) (c : ℕ) : Type 0 where
  pub drained : IsDrained x c
  pub served : IsServedIn acts x c

abbrev pub ReplaysDrain : Type 0
ReplaysDrain =
    (settings : Configuration) (name : ℕ → List ℕ) (acts : List Act) (x : Course) → HasRun settings name acts x → AllTookAll acts → (c : ℕ) → EndsInRoom c x → LeavesServed acts x c
