-- The clients of a record, by their names.
use Rattle.std.specs.Prelude.{◌≡◌, ◌<◌, ℕ, true, List, length, Some}
use Rattle.rs_policy.specs.Texts.{is_name}
use Rattle.rs_trace.specs.Replays.{place_in, name_in}
use Rattle.rs_trace.specs.declared.names.Names.{Names}

abbrev pub count_of : Names → ℕ
count_of names = length names.names.items

-- a client is found by its name, which is one word
pub record IsFound (names : Names) (c : ℕ) (name : List ℕ) : Type 0 where
  pub is : name ≡ name_in names c
  pub place : place_in names name ≡ Some c
  pub word : is_name name ≡ true

abbrev pub AreFound : Names → Type 0
AreFound names = (c : ℕ) → c < count_of names → IsFound names c (name_in names c)
