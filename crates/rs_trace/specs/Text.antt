-- The text of a trace: its lines, what they say, and the first of them that has a fault.
use Rattle.std.specs.Prelude.{◌≡◌, ℕ, ◌+◌, ◌≤◌, ◌==◌, ◌⊎◌, nat_lt, if◌then◌else◌, List, [], ◌∷◌, ◌++◌, length, Option, Some, None, Result, Ok, Err}
use Rattle.rs_trace.specs.declared.trace.LineFault.{LineFault}
use Rattle.rs_trace.specs.declared.trace.LineFault.TheVariants.{TooLong, TextTooLong}
use Rattle.rs_trace.specs.Words.{lengthen}
use Rattle.rs_trace.specs.Trace.{LineMeaning, Opened, Heard, Offered, Passed, Turned, Left, Commanded, Continued, Replaced, Listed, line_of}

-- what stands before each end of a line, and what stands after the last, if anything
abbrev pub lines_of : List ℕ → List (List ℕ)
lines_of [] = []
lines_of (octet ∷ octets) = if octet == 10 then [] ∷ lines_of octets else lengthen octet (lines_of octets)

-- how many lines of the text are whole: they have their end
abbrev pub whole_lines : List ℕ → ℕ
whole_lines [] = 0
whole_lines (octet ∷ octets) = if octet == 10 then 1 + whole_lines octets else whole_lines octets

-- what lines say up to the first that has a fault, and the number of that line and its fault
pub record Outcome : Type 0 where
  pub meanings : List LineMeaning
  pub fault : Option (ℕ × LineFault)

abbrev pub tells : List LineMeaning → Option (ℕ × LineFault) → Outcome
tells meanings fault = record { meanings = meanings; fault = fault }

-- after these meanings
abbrev pub behind : List LineMeaning → Outcome → Outcome
behind meanings later = tells (meanings ++ later.meanings) later.fault

-- what a line asks for, if anything, and the octets of a text of rules that goes on behind it
pub record Said : Type 0 where
  pub asked : Option LineMeaning
  pub text : List ℕ

abbrev pub asks : Option LineMeaning → List ℕ → Result Said LineFault
asks asked text = Ok (record { asked = asked; text = text })

-- a text of rules has at most 64 MiB
abbrev pub within : List ℕ → Result Said LineFault → Result Said LineFault
within text said = if nat_lt 67108864 (length text) then Err TextTooLong else said

-- what a line comes to behind these octets of a text: `more` goes on with them, and `rules` replaces the configuration by all of them
abbrev pub joined : List ℕ → Option LineMeaning → Result Said LineFault
joined text None = asks None text
joined text (Some (Continued octets)) = within (text ++ octets) (asks None (text ++ octets))
joined text (Some (Replaced octets)) = within (text ++ octets) (asks (Some (Replaced (text ++ octets))) [])
joined text (Some (Opened c)) = asks (Some (Opened c)) text
joined text (Some (Heard c octets)) = asks (Some (Heard c octets)) text
joined text (Some (Offered c n)) = asks (Some (Offered c n)) text
joined text (Some (Passed t)) = asks (Some (Passed t)) text
joined text (Some Turned) = asks (Some Turned) text
joined text (Some (Left c)) = asks (Some (Left c)) text
joined text (Some (Commanded c command)) = asks (Some (Commanded c command)) text
joined text (Some (Listed c)) = asks (Some (Listed c)) text

abbrev pub said : List ℕ → Result (Option LineMeaning) LineFault → Result Said LineFault
said text (Ok meant) = joined text meant
said text (Err fault) = Err fault

abbrev pub after : Option LineMeaning → Outcome → Outcome
after None later = later
after (Some meant) later = tells (meant ∷ later.meanings) later.fault

-- what a line makes of the outcome of the lines after it, which go on with a text
abbrev pub on_line : Result Said LineFault → ℕ → (List ℕ → Outcome) → Outcome
on_line (Ok s) n later = after s.asked (later s.text)
on_line (Err fault) n later = tells [] (Some (n, fault))

-- the outcome of lines behind these octets of a text; the first of the lines has the number n
abbrev pub outcome_behind : (List ℕ → Option ℕ) → List ℕ → ℕ → List (List ℕ) → Outcome
outcome_behind place text n [] = tells [] None
outcome_behind place text n (line ∷ lines) = on_line (said text (line_of place line)) n (λ octets. outcome_behind place octets (n + 1) lines)

-- the outcome of lines, of which the first has the number n
abbrev pub outcome : (List ℕ → Option ℕ) → ℕ → List (List ℕ) → Outcome
outcome place n lines = outcome_behind place [] n lines

-- Line n of the text, which has this fault, was read to its end, or to the text's, or is too long.
abbrev pub IsRead : List ℕ → ℕ → LineFault → Type 0 → Type 0
IsRead text n fault over = (n ≤ whole_lines text) ⊎ over ⊎ (fault ≡ TooLong)
