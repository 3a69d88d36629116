-- Which octets wait for whose connection. What was done last stands first.
use Rattle.std.specs.Prelude.{ℕ, ◌==◌, List, [], ◌∷◌, ◌++◌, take, drop, Option, Some, None, if◌then◌else◌}
use Rattle.rs_core.specs.declared.links.Event.TheVariants.{Lost}
use Rattle.rs_core.specs.Drives.Steps.{Happened, Begin, Offer, End}
use Rattle.rs_live.specs.Operations.{Operation, WroteTo, WroteRest, ClosedRest, Did}
use Rattle.rs_live.specs.Keys.{come, key_of, or_else}
use Rattle.rs_live.specs.Sending.{taken}

-- the first where there is such a connection, else the second
abbrev pub where_one : Option ℕ → List ℕ → List ℕ → List ℕ
where_one (Some key) octets others = octets
where_one None octets others = others

-- what waits for this client's connection: what the core's offers handed to it since the core began with it, and the ports have
-- not taken
abbrev pub waiting : ℕ → List Operation → List ℕ
waiting c [] = []
waiting c (Did (Begin d) ∷ operations) = if c == d then where_one (come c operations) [] (waiting c operations) else waiting c operations
waiting c (Did (Offer d octets (Some n)) ∷ operations) = if c == d then waiting c operations ++ take n octets else waiting c operations
waiting c (WroteTo d key octets answer ∷ operations) = if c == d then drop (taken answer) (waiting c operations) else waiting c operations
waiting c (Did (Offer d octets None) ∷ operations) = if c == d then [] else waiting c operations
waiting c (Did (Happened (Lost d) octets) ∷ operations) = if c == d then [] else waiting c operations
waiting c (Did (End d) ∷ operations) = if c == d then where_one (key_of c operations) [] (waiting c operations) else waiting c operations
waiting c (operation ∷ operations) = waiting c operations

-- the key of the connection that this client had when its session ended, until that one is closed
abbrev pub rest_key : ℕ → List Operation → Option ℕ
rest_key c [] = None
rest_key c (Did (End d) ∷ operations) = if c == d then or_else (key_of c operations) (rest_key c operations) else rest_key c operations
rest_key c (ClosedRest d key ∷ operations) = if c == d then None else rest_key c operations
rest_key c (operation ∷ operations) = rest_key c operations

-- what waited for it then, and the ports have not taken
abbrev pub rest : ℕ → List Operation → List ℕ
rest c [] = []
rest c (Did (End d) ∷ operations) = if c == d then where_one (key_of c operations) (waiting c operations) (rest c operations) else rest c operations
rest c (WroteRest d key octets answer ∷ operations) = if c == d then drop (taken answer) (rest c operations) else rest c operations
rest c (ClosedRest d key ∷ operations) = if c == d then [] else rest c operations
rest c (operation ∷ operations) = rest c operations
