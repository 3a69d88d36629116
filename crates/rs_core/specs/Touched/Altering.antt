-- Octets of a client that give it another table.
use Rattle.std.specs.Prelude.{◌≢◌, ◌⊎◌, ℕ, List, [], ◌∷◌, Result}
use Rattle.rs_octets.specs.declared.heads.HeaderFault.{HeaderFault}
use Rattle.rs_octets.specs.Messages.{newly_heard}
use Rattle.rs_octets.specs.Prefixes.{Prefix}
use Rattle.rs_policy.specs.Configuration.{Configuration}
use Rattle.rs_core.specs.Session.Hearing.{Hearing, allowed_in, table_in, listens}

-- one of these messages, heard one after the other, gave client c another value at p
abbrev pub AreAltering : Configuration → ℕ → List (Result (List ℕ) HeaderFault) → Hearing → Prefix → Type 0
AreAltering s c [] h p = ⊥
AreAltering s c (message ∷ messages) h p = (table_in s c (listens s c message h) p ≢ table_in s c h p) ⊎ AreAltering s c messages (listens s c message h) p

-- one of the messages that are whole with these octets did, also where a later one gave back what was there before
abbrev pub IsAlteredBy : Configuration → ℕ → List ℕ → Hearing → Prefix → Type 0
IsAlteredBy s c octets h p = AreAltering s c (newly_heard (allowed_in s) h.octets octets) h p
