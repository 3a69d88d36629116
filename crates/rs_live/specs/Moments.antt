-- Which moments the core is given. What was done last stands first.
use Rattle.std.specs.Prelude.{◌≡◌, ◌≤◌, ◌⊎◌, ℕ, List, [], ◌∷◌, Some, IsSome, ⊤}
use Rattle.rs_core.specs.declared.links.Event.TheVariants.{Moment}
use Rattle.rs_core.specs.Drives.Steps.{Happened, Begin}
use Rattle.rs_live.specs.Calls.{Waited, Read, Timed}
use Rattle.rs_live.specs.Operations.{Operation, Asked, Spared, Did}
use Rattle.rs_live.specs.Keys.{key_of}

-- in this round the clock was asked; or nothing was done at all
abbrev pub HasAsked : List Operation → Type 0
HasAsked [] = ⊤
HasAsked (Asked (Waited answer) ∷ operations) = ⊥
HasAsked (Asked (Timed seconds) ∷ operations) = ⊤
HasAsked (operation ∷ operations) = HasAsked operations

-- what the clock answered last
abbrev pub clock_of : List Operation → ℕ
clock_of [] = 0
clock_of (Asked (Timed seconds) ∷ operations) = seconds
clock_of (operation ∷ operations) = clock_of operations

-- the moment up to which no session ends, as the core answered in this round
abbrev pub quiet_of : List Operation → ℕ
quiet_of [] = 0
quiet_of (Asked (Waited answer) ∷ operations) = 0
quiet_of (Spared until ∷ operations) = until
quiet_of (operation ∷ operations) = quiet_of operations

-- the moment that the core was given last
abbrev pub told_of : List Operation → ℕ
told_of [] = 0
told_of (Did (Happened (Moment t) octets) ∷ operations) = t
told_of (operation ∷ operations) = told_of operations

-- since the clock answered, this client's connection was read, or the core began with it
abbrev pub WasRead : ℕ → List Operation → Type 0
WasRead c [] = ⊥
WasRead c (Asked (Timed seconds) ∷ operations) = ⊥
WasRead c (Asked (Read key piece answer) ∷ operations) = (key_of c operations ≡ Some key) ⊎ WasRead c operations
WasRead c (Did (Begin d) ∷ operations) = (c ≡ d) ⊎ WasRead c operations
WasRead c (operation ∷ operations) = WasRead c operations

-- so of each client that has a connection
abbrev pub WereRead : List Operation → Type 0
WereRead operations = (c : ℕ) → IsSome (key_of c operations) → WasRead c operations

-- A fair moment to give to the core: what the clock answered last; but where a session may end by that, only once each client that
-- has a connection was read, and before that the moment up to which none ends.
pub data IsFair (t : ℕ) (operations : List Operation) : Type 0 where
  OnTime : t ≡ clock_of operations → t ≤ quiet_of operations → IsFair t operations
  Heard : t ≡ clock_of operations → WereRead operations → IsFair t operations
  Sparing : t ≡ quiet_of operations → t ≤ clock_of operations → IsFair t operations

-- the core was given what the clock answered in this round; or nothing was done at all
pub record IsOnTime (operations : List Operation) : Type 0 where
  pub asked : HasAsked operations
  pub told : told_of operations ≡ clock_of operations
