-- What is shown of a member.
use Rattle.std.specs.Prelude.{◌≡◌, ℕ, nat_lt, Bool, List, ◌++◌, length, codes, decimal}
use Rattle.rs_policy.specs.Configuration.{Configuration}

-- it is one of the configuration's clients
abbrev pub is_client : Configuration → ℕ → Bool
is_client s c = nat_lt c (length s.clients)

-- an answer that the configuration gives
pub record IsGiven (configured : Configuration → Type 0) (answer : Configuration → Bool) (given : Bool) : Type 0 where
  pub config : Configuration
  pub is : configured config
  pub given_is : given ≡ answer config

abbrev pub numbered : List ℕ → ℕ → List ℕ
numbered name number = name ++ decimal number

-- how many routes, as birdwatcher has it
unfoldable pub counts_text : ℕ → ℕ → ℕ → ℕ → List ℕ
counts_text imported filtered exported preferred =
    numbered (codes "\"routes\":{\"imported\":") imported
    ++ numbered (codes ",\"filtered\":") filtered
    ++ numbered (codes ",\"exported\":") exported
    ++ numbered (codes ",\"preferred\":") preferred
    ++ codes "}}\n"
