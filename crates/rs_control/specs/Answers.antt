-- The answers to lines.
use Rattle.std.specs.Prelude.{◌≡◌, ◌≢◌, ℕ, List, [], ◌∷◌, ◌++◌, codes}
use Rattle.json.specs.Token.{begin_object, end_object, key, string}
use Rattle.json.specs.Print.{print}

-- an object with an error's text
abbrev pub error_line : List ℕ → List ℕ
error_line text = print (begin_object ∷ key (codes "error") ∷ string text ∷ end_object ∷ []) ++ 10 ∷ []

-- the answer where memory is refused
abbrev pub no_memory : List ℕ
no_memory = codes "{\"error\":\"out of memory\"}\n"

-- the answer to a line that is too long
abbrev pub long_line : List ℕ
long_line = codes "{\"error\":\"the line has more than 1024 octets\"}\n"

-- it says something
abbrev pub SaysSomething : List ℕ → Type 0
SaysSomething answer = answer ≢ []

-- it says an error
abbrev pub IsError : List ℕ → Type 0
IsError answer = (text : List ℕ) × (answer ≡ error_line text)
