-- Which calls on the sink follow which event, and what befalls the route server by it.
use Rattle.std.specs.Prelude.{◌≡◌, ◌≢◌, ◌<◌, ◌≤◌, ◌-◌, ◌||◌, ℕ, zero, suc, Bool, true, false, nat_le, nat_lt, List, [], ◌∷◌, length, take, Some, None, Ok, Err, ⊤}
use Rattle.std.specs.Borrow.{MutBor}
use Rattle.rs_session.specs.declared.act.State.TheVariants as states
use Rattle.rs_session.specs.declared.command.Command.{Command}
use Rattle.rs_policy.specs.Configuration.{Configuration}
use Rattle.rs_policy.specs.Replacing.{Replaces, Refuses}
use Rattle.rs_policy.specs.declared.faults.RulesFault.{RulesFault}
use Rattle.rs_core.specs.Run.Moves.{Move, Ruled, Came, Heard, Saw, Left, Dropped, Commanded, Turned, Began, config_in}
use Rattle.rs_core.specs.Session.Hearing.{state_in, is_closing}
use Rattle.rs_core.specs.Run.Meaning.{hearing, is_established}
use Rattle.rs_core.specs.Core.{client_count, lent_octets, owed}
use Rattle.rs_core.specs.Owed.Sending.{HasLent, HasTaken}
use Rattle.rs_core.specs.Drives.Steps.{Step, Happened, Begin, Busy, Offer, Memory, End, Replaced, stops}
use Rattle.rs_core.specs.Drives.Courses.{Course, Becomes, IsLost, HasContinued, called, remembered, moved, began, took}
use Rattle.rs_core.specs.declared.links.Event.{Event}
use Rattle.rs_core.specs.declared.links.Event.TheVariants as events
use Rattle.rs_core.specs.declared.route_server.Core.{Core}

-- ---- a client, after a run

-- it has no connection
abbrev pub IsIdle : List Move → ℕ → Type 0
IsIdle run c = state_in (config_in run) c (hearing c run) ≡ states.Idle

-- its session has ended, and its connection has not
abbrev pub closes : List Move → ℕ → Bool
closes run c = is_closing (state_in (config_in run) c (hearing c run))

-- ---- room of a link

-- The next message begins where none is in flight. Where nothing was owed, nothing is offered. Else as much of what is lent as there is
-- room for is offered, and so many octets of it are taken; or the offer fails, and the connection is lost.
pub data Offers (c room : ℕ) : ℕ → Course → Course → Type 0 where
  Nothing : (x : Course) (core : Core) (lent : HasLent c x.core (lent_octets core c) core) → owed x.core c ≡ 0 → lent_octets core c ≡ []
      → Offers c room 0 x (began c x core lent)
  Fails : (x : Course) (core after : Core) (lent : HasLent c x.core (lent_octets core c) core) → lent_octets core c ≢ []
      → (lost : IsLost c (Began c ∷ x.run) core after)
      → Offers c room 0 x (moved (Left c) (called (Offer c (take room (lent_octets core c)) None) (began c x core lent)) after lost.becomes)
  Takes : (k : ℕ) (x : Course) (core after : Core) (lent : HasLent c x.core (lent_octets core c) core) → lent_octets core c ≢ []
      → k ≤ length (take room (lent_octets core c)) → (taken : HasTaken c k core after)
      → Offers c room k x (took c k (called (Offer c (take room (lent_octets core c)) (Some k)) (began c x core lent)) after taken)

-- offers one after the other, until the room is used or one of them takes nothing
pub data Gives (c : ℕ) : ℕ → Course → Course → Type 0 where
  Used : (x : Course) → Gives c 0 x x
  Stopped : (room : ℕ) (x y : Course) → 0 < room → Offers c room 0 x y → Gives c room x y
  Goes_on : (room k : ℕ) (x y z : Course) → 0 < k → k ≤ room → Offers c room k x y → Gives c (room - k) y z → Gives c room x z

-- ---- the answer to an event

-- an event of a client that is not there, or of more octets than a piece has; there are n clients
abbrev pub is_passed_over : ℕ → Event → Bool
is_passed_over n (events.Opened c) = nat_le n c
is_passed_over n (events.Octets c len) = nat_le n c || nat_lt 4096 len
is_passed_over n (events.Moment t) = false
is_passed_over n (events.Commanded c command) = nat_le n c
is_passed_over n events.Turn = false
is_passed_over n (events.Room c room) = nat_le n c
is_passed_over n (events.Lost c) = nat_le n c
is_passed_over n events.Rules = false
is_passed_over n events.Stop = false

-- clients below n that are Established after this run, each once, the greatest first
abbrev pub AreEstablished : List Move → ℕ → List ℕ → Type 0
AreEstablished run n [] = ⊤
AreEstablished run n (c ∷ cs) = (c < n) × (is_established run c ≡ true) × AreEstablished run c cs

-- with these octets, where the event came with any
pub data Answers (octets : List ℕ) : Event → Course → Course → Type 0 where
  Passes : (event : Event) (x : Course) → is_passed_over (client_count x.core) event ≡ true → Answers octets event x x
  Begins : (c : ℕ) (x : Course) (core : Core) (came : Becomes (Came c) x.run x.core core) → c < client_count x.core → IsIdle x.run c
      → Answers octets (events.Opened c) x (moved (Came c) (called (Begin c) x) core came)
  Declines : (c : ℕ) (x : Course) → c < client_count x.core → (IsIdle x.run c → ⊥) → Answers octets (events.Opened c) x (called (Busy c) x)
  Hears : (c len : ℕ) (x : Course) (core : Core) (heard : Becomes (Heard c octets) x.run x.core core) → c < client_count x.core → len ≤ 4096
      → Answers octets (events.Octets c len) x (moved (Heard c octets) x core heard)
  -- memory was refused for them
  Drops : (c len : ℕ) (x : Course) (core : Core) (dropped : Becomes (Dropped c octets) x.run x.core core) → c < client_count x.core → len ≤ 4096
      → Answers octets (events.Octets c len) x (moved (Dropped c octets) (called (End c) (called (Memory c) x)) core dropped)
  Sees : (t : ℕ) (x : Course) (core : Core) (saw : Becomes (Saw t) x.run x.core core) → Answers octets (events.Moment t) x (moved (Saw t) x core saw)
  Commands : (c : ℕ) (command : Command) (x : Course) (core : Core) (became : Becomes (Commanded c command) x.run x.core core) → c < client_count x.core
      → Answers octets (events.Commanded c command) x (moved (Commanded c command) x core became)
  -- memory was refused for some of those that are Established; each is reported to the sink once, by rising place
  Turns : (refused : List ℕ) (x : Course) (core : Core) (turned : Becomes (Turned refused) x.run x.core core) → AreEstablished x.run (client_count x.core) refused
      → Answers octets events.Turn x (moved (Turned refused) (remembered refused x) core turned)
  Fills : (c room : ℕ) (x y : Course) → c < client_count x.core → Gives c room x y → Answers octets (events.Room c room) x y
  Loses : (c : ℕ) (x : Course) (core : Core) (lost : IsLost c x.run x.core core) → c < client_count x.core → Answers octets (events.Lost c) x (moved (Left c) x core lost.becomes)
  Rules : (config : Configuration) (x : Course) (core : Core) (ruled : Becomes (Ruled config) x.run x.core core) → Replaces (config_in x.run) octets config
      → Answers octets events.Rules x (moved (Ruled config) (called (Replaced (Ok tt)) x) core ruled)
  Keeps : (fault : RulesFault) (x : Course) → Refuses (config_in x.run) octets fault → Answers octets events.Rules x (called (Replaced (Err fault)) x)

-- ---- the ends after it

-- a client whose session has ended is ended where nothing is owed to it
pub data Ended (c : ℕ) : Course → Course → Type 0 where
  Lasts : (x : Course) → closes x.run c ≡ false → Ended c x x
  Owes : (x : Course) (core : Core) (lent : HasLent c x.core (lent_octets core c) core) → closes x.run c ≡ true → owed x.core c ≢ 0 → Ended c x (began c x core lent)
  Closes : (x : Course) (core after : Core) (lent : HasLent c x.core (lent_octets core c) core) → closes x.run c ≡ true → owed x.core c ≡ 0
      → (lost : IsLost c (Began c ∷ x.run) core after) → Ended c x (moved (Left c) (called (End c) (began c x core lent)) after lost.becomes)

-- so for each of the first so many clients, one after the other
abbrev pub Ends : ℕ → Course → Course → Type 0
Ends zero x y = x ≡ y
Ends (suc c) x z = (y : Course) × Ends c x y × Ended c y z

-- of all clients
abbrev pub EndsAll : Course → Course → Type 0
EndsAll x y = Ends (client_count x.core) x y

-- ---- how a turn is done

-- each call that this can be is a turn of all clients
abbrev pub AreTurns : {L : Type 0} → (L → Step → L → Type 0) → (MutBor Core → MutBor L → Unit {0} → MutBor Core → MutBor L → Type 0) → Type 0
AreTurns {L} happens calls = (old new : MutBor Core) (before after : MutBor L) → calls old before tt new after → HasContinued happens old.now before.now new.now after.now (Answers [] events.Turn)

-- ---- rounds

-- event for event: it comes, it is answered, and those that are closing are ended
pub data Rounds (x : Course) : Course → Type 0 where
  Start : Rounds x x
  Round : (event : Event) (octets : List ℕ) (y z w : Course) → Rounds x y → stops event ≡ false → Answers octets event (called (Happened event octets) y) z → EndsAll z w → Rounds x w

-- and then a stop
pub record Drives (x y : Course) : Type 0 where
  pub before : Course
  pub octets : List ℕ
  pub rounds : Rounds x before
  pub stop : y ≡ called (Happened events.Stop octets) before

-- any number of drives, one after the other
pub data Drove (x : Course) : Course → Type 0 where
  Never : Drove x x
  Again : (y z : Course) → Drove x y → Drives y z → Drove x z
