-- What a line of a trace says.
use Rattle.std.specs.Prelude.{ℕ, ◌==◌, nat_lt, Bool, true, if◌then◌else◌, List, [], ◌∷◌, length, codes, bytes_eq, Option, Some, None, Result, Ok, Err}
use Rattle.std.specs.Map.{lookup}
use Rattle.std.specs.Option.{option_and_then}
use Rattle.std.specs.Result.{result_ok}
use Rattle.hex.specs.Hex.{decode_of}
use Rattle.rs_open.specs.declared.shutdown.ShutdownText.{ShutdownText}
use Rattle.rs_open.specs.Notes.{no_text, shutdown_text}
use Rattle.rs_session.specs.declared.command.Command.{Command}
use Rattle.rs_session.specs.declared.command.Command.TheVariants as commands
use Rattle.rs_trace.specs.declared.trace.LineFault.{LineFault}
use Rattle.rs_trace.specs.declared.trace.LineFault.TheVariants.{TooLong, UnknownWord, WordCount, UnknownClient, BadNumber, BadHex}
use Rattle.rs_trace.specs.declared.trace.Word.{Word}
use Rattle.rs_trace.specs.declared.trace.Word.TheVariants.{Open, Octets, Room, Moment, Turn, Lost, Shutdown, Refresh, More, Rules, Table}
use Rattle.rs_trace.specs.Words.{words_of}
use Rattle.rs_trace.specs.Numbers.{number_of}

-- what a line says; a client is its place in the configuration
pub data LineMeaning : Type 0 where
  -- a connection to the client is there
  Opened : ℕ → LineMeaning
  -- the client sends octets
  Heard : ℕ → List ℕ → LineMeaning
  -- the client's connection takes up to so many octets
  Offered : ℕ → ℕ → LineMeaning
  -- the clock has come to this second
  Passed : ℕ → LineMeaning
  -- what is due is worked out anew
  Turned : LineMeaning
  -- the client's connection is lost
  Left : ℕ → LineMeaning
  -- the operator gives the client's session a command
  Commanded : ℕ → Command → LineMeaning
  -- a text goes on by these octets
  Continued : List ℕ → LineMeaning
  -- the configuration is to be replaced by this text
  Replaced : List ℕ → LineMeaning
  -- the routes of the client's Loc-RIB are asked for
  Listed : ℕ → LineMeaning

-- the words that a line may begin with; those from the seventh on are of what is asked for by who runs the server
abbrev pub words : List (List ℕ × Word)
words =
    (codes "octets", Octets)
    ∷ (codes "room", Room)
    ∷ (codes "turn", Turn)
    ∷ (codes "moment", Moment)
    ∷ (codes "open", Open)
    ∷ (codes "lost", Lost)
    ∷ (codes "shutdown", Shutdown)
    ∷ (codes "refresh", Refresh)
    ∷ (codes "more", More)
    ∷ (codes "rules", Rules)
    ∷ (codes "table", Table)
    ∷ []

abbrev pub word_of : List ℕ → Option Word
word_of text = lookup (bytes_eq text) words

-- what comes of a value, or the fault where there is none
abbrev pub with_value : {A B : Type 0} → Option A → LineFault → (A → Result B LineFault) → Result B LineFault
with_value None fault next = Err fault
with_value (Some value) fault next = next value

-- at most 4,096 octets, as two hex digits each, of either case
abbrev pub octets_of : List ℕ → Option (List ℕ)
octets_of digits = if nat_lt 8192 (length digits) then None else result_ok (decode_of digits)

-- the same, and at least one octet
abbrev pub text_of : List ℕ → Option (List ℕ)
text_of [] = None
text_of (digit ∷ digits) = octets_of (digit ∷ digits)

-- an operator's text: the same, and 128 octets of UTF-8 at most (RFC 9003, 2)
abbrev pub operator_text : List ℕ → Option ShutdownText
operator_text digits = option_and_then shutdown_text (text_of digits)

-- what each word makes of the words after it
abbrev pub meaning_of : (List ℕ → Option ℕ) → Word → List (List ℕ) → Result LineMeaning LineFault
meaning_of place Open (name ∷ []) = with_value (place name) UnknownClient (λ c. Ok (Opened c))
meaning_of place Octets (name ∷ []) = with_value (place name) UnknownClient (λ c. Ok (Heard c []))
meaning_of place Octets (name ∷ digits ∷ []) =
    with_value (place name) UnknownClient (λ c. with_value (octets_of digits) BadHex (λ octets. Ok (Heard c octets)))
meaning_of place Room (name ∷ number ∷ []) =
    with_value (place name) UnknownClient (λ c. with_value (number_of number) BadNumber (λ n. Ok (Offered c n)))
meaning_of place Moment (number ∷ []) = with_value (number_of number) BadNumber (λ t. Ok (Passed t))
meaning_of place Turn [] = Ok Turned
meaning_of place Lost (name ∷ []) = with_value (place name) UnknownClient (λ c. Ok (Left c))
meaning_of place Shutdown (name ∷ []) = with_value (place name) UnknownClient (λ c. Ok (Commanded c (commands.Stop no_text)))
meaning_of place Shutdown (name ∷ digits ∷ []) =
    with_value (place name) UnknownClient (λ c. with_value (operator_text digits) BadHex (λ text. Ok (Commanded c (commands.Stop text))))
meaning_of place Refresh (name ∷ []) = with_value (place name) UnknownClient (λ c. Ok (Commanded c commands.Refresh))
meaning_of place More (digits ∷ []) = with_value (text_of digits) BadHex (λ text. Ok (Continued text))
meaning_of place Rules (digits ∷ []) = with_value (text_of digits) BadHex (λ text. Ok (Replaced text))
meaning_of place Table (name ∷ []) = with_value (place name) UnknownClient (λ c. Ok (Listed c))
meaning_of place _ _ = Err WordCount

abbrev pub meaning_by_words : (List ℕ → Option ℕ) → List (List ℕ) → Result LineMeaning LineFault
meaning_by_words place [] = Err UnknownWord
meaning_by_words place (word ∷ operands) = with_value (word_of word) UnknownWord (λ w. meaning_of place w operands)

-- an empty line, or a comment
abbrev pub is_passed_over : List ℕ → Bool
is_passed_over [] = true
is_passed_over (octet ∷ octets) = octet == 35

abbrev pub result_some : Result LineMeaning LineFault → Result (Option LineMeaning) LineFault
result_some (Ok meant) = Ok (Some meant)
result_some (Err fault) = Err fault

-- what a line says, or its first fault; nothing where it is passed over. `place` finds a client by its name.
abbrev pub line_of : (List ℕ → Option ℕ) → List ℕ → Result (Option LineMeaning) LineFault
line_of place line =
    if nat_lt 8240 (length line) then Err TooLong
    else if is_passed_over line then Ok None
    else result_some (meaning_by_words place (words_of line))
