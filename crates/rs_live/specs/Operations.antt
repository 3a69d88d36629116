-- What the server does, one operation after the other. What was done last stands first.
use Rattle.std.specs.Prelude.{ℕ, List, [], ◌∷◌, Option, Result}
use Rattle.rs_core.specs.Drives.Steps.{Step}
use Rattle.rs_live.specs.declared.ports.PortFault.{PortFault}
use Rattle.rs_live.specs.Calls.{Call, Wrote, Closed}

pub data Operation : Type 0 where
  -- the ports were asked
  Asked : (call : Call) → Operation
  -- octets were written for this client, to its connection
  WroteTo : (c key : ℕ) (octets : List ℕ) (answer : Result (Option ℕ) PortFault) → Operation
  -- and to the connection that it had when its session ended
  WroteRest : (c key : ℕ) (octets : List ℕ) (answer : Result (Option ℕ) PortFault) → Operation
  -- that one was closed
  ClosedRest : (c key : ℕ) → Operation
  -- the core answered that no session ends by a moment up to this one
  Spared : (until : ℕ) → Operation
  -- a step between the core and its link: the core was given an event, or called
  Did : (step : Step) → Operation

abbrev pub calls : List Operation → List Call
calls [] = []
calls (Asked call ∷ operations) = call ∷ calls operations
calls (WroteTo c key octets answer ∷ operations) = Wrote key octets answer ∷ calls operations
calls (WroteRest c key octets answer ∷ operations) = Wrote key octets answer ∷ calls operations
calls (ClosedRest c key ∷ operations) = Closed key ∷ calls operations
calls (Spared until ∷ operations) = calls operations
calls (Did step ∷ operations) = calls operations
