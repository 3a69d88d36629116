-- Octets written into the middle of others.
use Rattle.std.specs.Prelude.{◌≡◌, ℕ, ◌+◌, List, ◌++◌, length, take, drop}

-- the new octets are the old ones with these from here on
abbrev pub Writes : ℕ → List ℕ → List ℕ → List ℕ → Type 0
Writes at octets old new = new ≡ take at old ++ octets ++ drop (at + length octets) old
