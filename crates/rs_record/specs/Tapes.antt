-- What a tape does with the lines that it is given.
use Rattle.std.specs.Prelude.{◌≡◌, ◌⊎◌, ℕ, Bool, true, false, List, ◌++◌}

-- it took all of them; or none, and is over; once it is over it takes none
abbrev pub Takes : Bool → List ℕ → List ℕ → Bool → List ℕ → Type 0
Takes true held lines is_over holds = (is_over ≡ true) × (holds ≡ held)
Takes false held lines is_over holds = ((is_over ≡ false) × (holds ≡ held ++ lines)) ⊎ ((is_over ≡ true) × (holds ≡ held))
