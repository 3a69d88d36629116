-- What befell a client that decides what it is told: turns, requests, and beginnings of messages.
use Rattle.std.specs.Prelude.{ℕ, Bool, List, [], ◌∷◌, Option, None, if◌then◌else◌}
use Rattle.rs_octets.specs.Prefixes.{Prefix}
use Rattle.rs_attrs.specs.Meaning.{Attribute}

-- what is due, or was told, at a prefix: attributes, or none where there is no route or it was withdrawn
abbrev pub Value : Type 0
Value = Option (List Attribute)

pub data Point : Type 0 where
  Decided : (due : Prefix → Value) → Point  -- a turn that was not refused, while it was Established: this was due to it then
  Asked : Point  -- it asked for all routes again (RFC 2918, 4), or the operator did for it
  Offered : (taken : List ℕ) → Point  -- where none was in flight the next message to it began, if there was one; these octets were taken before

-- what was due at a prefix at each of the turns, the newest first
abbrev pub dues_at : List Point → Prefix → List Value
dues_at [] p = []
dues_at (Decided due ∷ points) p = due p ∷ dues_at points p
dues_at (Asked ∷ points) p = dues_at points p
dues_at (Offered taken ∷ points) p = dues_at points p

-- none at first
abbrev pub latest : List Value → Value
latest [] = None
latest (value ∷ values) = value

abbrev pub asked_if : Bool → List Point → List Point
asked_if is_request points = if is_request then Asked ∷ points else points
