-- What stands at the end of each round, that is, from one wait to the next. What was done last stands first.
use Rattle.std.specs.Prelude.{◌≡◌, ◌⊎◌, ℕ, List, [], ◌∷◌, None, IsSome, ⊤}
use Rattle.rs_core.specs.declared.links.Event.TheVariants.{Octets, Moment, Turn, Room, Commanded}
use Rattle.rs_core.specs.Drives.Steps.{Happened}
use Rattle.rs_live.specs.Calls.{Waited}
use Rattle.rs_live.specs.Operations.{Operation, Asked, Did}
use Rattle.rs_live.specs.Keys.{come, key_of}
use Rattle.rs_live.specs.Moments.{IsOnTime}
use Rattle.rs_live.specs.Orders.{HasOrdered, end_of, IsStopped}

-- in this round the core was given a moment, and no octets and no command after it
abbrev pub IsTimed : List Operation → Type 0
IsTimed [] = ⊥
IsTimed (Asked (Waited answer) ∷ operations) = ⊥
IsTimed (Did (Happened (Octets c count) octets) ∷ operations) = ⊥
IsTimed (Did (Happened (Commanded c command) octets) ∷ operations) = ⊥
IsTimed (Did (Happened (Moment seconds) octets) ∷ operations) = ⊤
IsTimed (operation ∷ operations) = IsTimed operations

-- in this round it was given a turn after such a moment, and no octets and no command after that; or nothing was done at all
abbrev pub IsTurned : List Operation → Type 0
IsTurned [] = ⊤
IsTurned (Asked (Waited answer) ∷ operations) = ⊥
IsTurned (Did (Happened (Octets c count) octets) ∷ operations) = ⊥
IsTurned (Did (Happened (Commanded c command) octets) ∷ operations) = ⊥
IsTurned (Did (Happened Turn octets) ∷ operations) = IsTimed operations
IsTurned (operation ∷ operations) = IsTurned operations

-- after the last turn this client was given room, as much as an event can give
abbrev pub HasRoom : ℕ → List Operation → Type 0
HasRoom c [] = ⊥
HasRoom c (Did (Happened Turn octets) ∷ operations) = ⊥
HasRoom c (Did (Happened (Room d room) octets) ∷ operations) = ((c ≡ d) × (room ≡ 18446744073709551615)) ⊎ HasRoom c operations
HasRoom c (operation ∷ operations) = HasRoom c operations

-- A round may end: after the last octets and commands that the core was given in it came a moment and then a turn, and after that turn each
-- client that has a connection was given room; the core was given what the clock answered in the round; and of no client is the
-- connection that came last unanswered. The ports were asked for an order; or, where the server was ordered to end,
-- the core was told to stop each client that has a connection.
pub record IsSettled (operations : List Operation) : Type 0 where
  pub turned : IsTurned operations
  pub rooms : (c : ℕ) → IsSome (key_of c operations) → HasRoom c operations
  pub on_time : IsOnTime operations
  pub answered : (c : ℕ) → come c operations ≡ None
  pub ordered : end_of operations ≡ None → HasOrdered operations
  pub stopped : (c : ℕ) → IsSome (key_of c operations) → IsStopped c operations
