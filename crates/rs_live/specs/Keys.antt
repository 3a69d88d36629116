-- Which connection is whose, by the key that `accept` gave. What was done last stands first.
use Rattle.std.specs.Prelude.{ℕ, ◌==◌, List, [], ◌∷◌, Option, Some, None, Ok, if◌then◌else◌}
use Rattle.rs_core.specs.declared.links.Event.TheVariants.{Opened, Lost}
use Rattle.rs_core.specs.Drives.Steps.{Happened, Begin, Busy, Offer, End}
use Rattle.rs_live.specs.declared.ports.Line.TheVariants as lines
use Rattle.rs_live.specs.Calls.{Accepted, Printed}
use Rattle.rs_live.specs.Operations.{Operation, Asked, Did}

-- the key of the connection that was accepted by the last of these operations
abbrev pub accepted : List Operation → Option ℕ
accepted (Asked (Accepted (Ok (Some incoming))) ∷ operations) = Some incoming.key
accepted operations = None

-- the key of the connection of this client that came last, where it was not answered yet: the core neither began with it nor
-- refused it as a second one, and it was not refused as a stranger's
abbrev pub come : ℕ → List Operation → Option ℕ
come c [] = None
come c (Did (Happened (Opened d) octets) ∷ operations) = if c == d then accepted operations else come c operations
come c (Did (Begin d) ∷ operations) = if c == d then None else come c operations
come c (Did (Busy d) ∷ operations) = if c == d then None else come c operations
come c (Asked (Printed lines.Stranger) ∷ operations) = None
come c (operation ∷ operations) = come c operations

-- the first, or where there is none the second
abbrev pub or_else : Option ℕ → Option ℕ → Option ℕ
or_else (Some key) other = Some key
or_else None other = other

-- the key of this client's connection: the one that had come when the core began with it, until it is lost or the core ends it
abbrev pub key_of : ℕ → List Operation → Option ℕ
key_of c [] = None
key_of c (Did (Begin d) ∷ operations) = if c == d then or_else (come c operations) (key_of c operations) else key_of c operations
key_of c (Did (Happened (Lost d) octets) ∷ operations) = if c == d then None else key_of c operations
key_of c (Did (Offer d octets None) ∷ operations) = if c == d then None else key_of c operations
key_of c (Did (End d) ∷ operations) = if c == d then None else key_of c operations
key_of c (operation ∷ operations) = key_of c operations
