-- What is due to a client is due by what the others hold.
use Rattle.std.specs.Prelude.{◌≡◌, ◌≢◌, ℕ}
use Rattle.rs_octets.specs.Prefixes.{Prefix}
use Rattle.rs_outlet.specs.declared.answers.Speech.{Speech}
use Rattle.rs_outlet.specs.Decided.Due.{Held, due_to}

-- the same rules, and the same clients, each but c with the same routes and BGP Identifier
pub record AreAlike (c : ℕ) (t u : Held) : Type 0 where
  pub settings : t.settings ≡ u.settings
  pub count : t.count ≡ u.count
  pub held : (d : ℕ) → d ≢ c → (p : Prefix) → t.held d p ≡ u.held d p
  pub identifier : (d : ℕ) → d ≢ c → t.identifier d ≡ u.identifier d

-- a client's own routes are no candidates for it (RFC 7947, 2.3)
abbrev pub DueIsAlike : Type 0
DueIsAlike = (c : ℕ) (t u : Held) → AreAlike c t u → (speech : Speech) (p : Prefix) → due_to t c speech p ≡ due_to u c speech p
