-- What the operator orders, and what is left of it. What was done last stands first.
use Rattle.std.specs.Prelude.{◌≡◌, ◌<◌, ◌≤◌, ◌+◌, ◌==◌, ◌⊎◌, ℕ, Bool, true, false, List, [], ◌∷◌, Option, Some, None, IsSome, ⊤, if◌then◌else◌}
use Rattle.rs_control.specs.declared.order.Order.{Order}
use Rattle.rs_control.specs.declared.order.Order.TheVariants as orders
use Rattle.rs_session.specs.declared.command.Command.TheVariants as commands
use Rattle.rs_core.specs.declared.links.Event.TheVariants.{Commanded}
use Rattle.rs_core.specs.Drives.Steps.{Happened}
use Rattle.rs_live.specs.Calls.{Waited, Ordered}
use Rattle.rs_live.specs.Operations.{Operation, Asked, Did}
use Rattle.rs_live.specs.Keys.{key_of}
use Rattle.rs_live.specs.Waiting.{rest_key}
use Rattle.rs_live.specs.Moments.{clock_of}

-- the order names no client but those of a server of so many
abbrev pub IsOf : ℕ → Order → Type 0
IsOf clients (orders.Disable c text) = c < clients
IsOf clients (orders.Enable c) = c < clients
IsOf clients (orders.Refresh c) = c < clients
IsOf clients orders.Reload = ⊤
IsOf clients orders.End = ⊤

-- this client is kept down: the core was told to stop it, and the operator has not enabled it since
abbrev pub is_down : ℕ → List Operation → Bool
is_down c [] = false
is_down c (Did (Happened (Commanded d (commands.Stop text)) octets) ∷ operations) = if c == d then true else is_down c operations
is_down c (Asked (Ordered (Some (orders.Enable d))) ∷ operations) = if c == d then false else is_down c operations
is_down c (operation ∷ operations) = is_down c operations

-- in this round the ports were asked for an order; or nothing was done at all
abbrev pub HasOrdered : List Operation → Type 0
HasOrdered [] = ⊤
HasOrdered (Asked (Waited answer) ∷ operations) = ⊥
HasOrdered (Asked (Ordered answer) ∷ operations) = ⊤
HasOrdered (operation ∷ operations) = HasOrdered operations

-- what the clock had answered when the server was ordered to end
abbrev pub end_of : List Operation → Option ℕ
end_of [] = None
end_of (Asked (Ordered (Some orders.End)) ∷ operations) = Some (clock_of operations)
end_of (operation ∷ operations) = end_of operations

-- where the server was ordered to end, the core was told since to stop this client
abbrev pub IsStopped : ℕ → List Operation → Type 0
IsStopped c [] = ⊤
IsStopped c (Asked (Ordered (Some orders.End)) ∷ operations) = ⊥
IsStopped c (Did (Happened (Commanded d (commands.Stop text)) octets) ∷ operations) = (c ≡ d) ⊎ IsStopped c operations
IsStopped c (operation ∷ operations) = IsStopped c operations

-- A server that was ordered to end may end: no client has a connection, nor one that is being closed; or it was ordered five
-- seconds ago.
pub data IsAtEnd (operations : List Operation) : Type 0 where
  Closed : IsSome (end_of operations) → ((c : ℕ) → (key_of c operations ≡ None) × (rest_key c operations ≡ None)) → IsAtEnd operations
  Late : (t : ℕ) → end_of operations ≡ Some t → t + 5 ≤ clock_of operations → IsAtEnd operations

-- it ends without a fault only so, or where it was to end after so many sessions
abbrev pub MayEnd : Option ℕ → List Operation → Type 0
MayEnd sessions operations = IsSome sessions ⊎ IsAtEnd operations
