-- The lines of a file of what another server sent: what each says, or its first fault.
use Rattle.std.specs.Prelude.{ℕ, ◌==◌, ◌||◌, nat_lt, Bool, if◌then◌else◌, List, [], ◌∷◌, length, take, codes, bytes_eq, Option, Some, None, Result, Ok, Err}
use Rattle.rs_trace.specs.declared.trace.LineFault.{LineFault}
use Rattle.rs_trace.specs.declared.trace.LineFault.TheVariants.{TooLong, UnknownWord, WordCount, UnknownClient, BadNumber, BadHex}
use Rattle.rs_trace.specs.Words.{words_of}
use Rattle.rs_trace.specs.Numbers.{number_of}
use Rattle.rs_trace.specs.Trace.{is_passed_over, octets_of, with_value}
use Rattle.rs_replay.specs.declared.sent_lines.Word.{Word}
use Rattle.rs_replay.specs.declared.sent_lines.Word.TheVariants as words
use Rattle.rs_replay.specs.declared.sent_lines.Entry.{Entry}
use Rattle.rs_replay.specs.declared.sent_lines.Entry.TheVariants as entries

-- what a line says; a client is its place in the configuration
pub data Said : Type 0 where
  -- a connection to the client is there, on which nothing was sent yet
  Began : ℕ → Said
  -- the server sends it octets
  Gave : ℕ → List ℕ → Said
  -- what follows was sent behind this line of the trace
  Behind : ℕ → Said

-- the first words of lines that a replay writes, but for `sent`
abbrev pub is_output_word : List ℕ → Bool
is_output_word text =
    bytes_eq text (codes "close") || bytes_eq text (codes "busy") || bytes_eq text (codes "memory") || bytes_eq text (codes "route") || bytes_eq text (codes "rules")
    || bytes_eq text (codes "line") || bytes_eq text (codes "unreadable") || bytes_eq text (codes "missing") || bytes_eq text (codes "not-due") || bytes_eq text (codes "other")
    || bytes_eq text (codes "compared")

-- the words that a line may begin with
abbrev pub word_of : List ℕ → Option Word
word_of text =
    if bytes_eq text (codes "sent") then Some words.Sent
    else if bytes_eq text (codes "open") then Some words.Open
    else if bytes_eq text (codes "after") then Some words.After
    else if is_output_word text then Some words.Output
    else None

-- what each word makes of the words after it; nothing is said by what a replay writes beside `sent`
abbrev pub said_by : (List ℕ → Option ℕ) → Word → List (List ℕ) → Result (Option Said) LineFault
said_by place words.Open (name ∷ []) = with_value (place name) UnknownClient (λ c. Ok (Some (Began c)))
said_by place words.Sent (name ∷ digits ∷ []) =
    with_value (place name) UnknownClient (λ c. with_value (octets_of digits) BadHex (λ octets. Ok (Some (Gave c octets))))
said_by place words.After (number ∷ []) = with_value (number_of number) BadNumber (λ n. Ok (Some (Behind n)))
said_by place words.Output operands = Ok None
said_by place _ _ = Err WordCount

abbrev pub said_by_words : (List ℕ → Option ℕ) → List (List ℕ) → Result (Option Said) LineFault
said_by_words place [] = Err UnknownWord
said_by_words place (word ∷ operands) = with_value (word_of word) UnknownWord (λ w. said_by place w operands)

-- what a line says, or its first fault; nothing where it is passed over, as an empty line or a comment is. `place` finds a client by
-- its name.
abbrev pub said_of : (List ℕ → Option ℕ) → List ℕ → Result (Option Said) LineFault
said_of place line =
    if nat_lt 8240 (length line) then Err TooLong
    else if is_passed_over line then Ok None
    else said_by_words place (words_of line)

-- ---- as the code has it: the octets stand at the front of a piece

abbrev pub said_in : List ℕ → Entry → Said
said_in piece (entries.Open c) = Began c
said_in piece (entries.Sent c n) = Gave c (take n piece)
said_in piece (entries.After n) = Behind n

abbrev pub entry_as_said : List ℕ → Result (Option Entry) LineFault → Result (Option Said) LineFault
entry_as_said piece (Ok None) = Ok None
entry_as_said piece (Ok (Some entry)) = Ok (Some (said_in piece entry))
entry_as_said piece (Err fault) = Err fault
