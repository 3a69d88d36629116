-- What stays of a list that has a value for each client.
use Rattle.std.specs.Prelude.{◌≡◌, ◌≢◌, ℕ, List, slice_get}

-- the values of the clients other than c are what they were
abbrev pub KeepsOthers : {X : Type 0} → ℕ → List X → List X → Type 0
KeepsOthers c old new = (d : ℕ) → d ≢ c → slice_get new d ≡ slice_get old d
