-- Texts of several files as one.
use Rattle.std.specs.Prelude.{ℕ, Bool, false, not, ◌==◌, ◌-◌, List, [], ◌∷◌, ◌++◌, length, fold, slice_get, Option, Some, None, if◌then◌else◌}

-- the last line of a text lacks its end: in TOML 1.0 a line ends by LF or by CRLF, whose last octet is the same; an
-- empty text has no line
abbrev pub lacks_end : Option ℕ → Bool
lacks_end None = false
lacks_end (Some last) = not (last == 10)

-- a text, and the end of its last line where it lacks it
abbrev pub ended : List ℕ → List ℕ
ended text = if lacks_end (slice_get text (length text - 1)) then text ++ (10 ∷ []) else text

-- a text that begins on a new line behind others, which begin where they began
abbrev pub put : List ℕ × List ℕ → List ℕ → List ℕ × List ℕ
put front text = (ended (front.0) ++ text, front.1 ++ (length (ended (front.0)) ∷ []))

abbrev pub join : List (List ℕ) → List ℕ × List ℕ
join texts = fold put ([], []) texts

-- texts in their order as one
abbrev pub joined : List (List ℕ) → List ℕ
joined texts = (join texts).0

-- behind how many octets of it each begins
abbrev pub starts_of : List (List ℕ) → List ℕ
starts_of texts = (join texts).1
