-- What a line of an operator asks for: words parted by spaces, of which the first is the command.
use Rattle.std.specs.Prelude.{ℕ, ◌==◌, ◌||◌, Bool, List, [], ◌∷◌, Option, Some, None, Result, Ok, Err, if◌then◌else◌, codes, bytes_eq}
use Rattle.std.specs.List.{list_all, before_first, after_first}
use Rattle.std.specs.Str.{is_utf8}
use Rattle.std.specs.Char.{is_ascii_digit}
use Rattle.rs_open.specs.declared.shutdown.ShutdownText.{ShutdownText}
use Rattle.rs_open.specs.Notes.{shutdown_text}
use Rattle.rs_policy.specs.Configuration.{Configuration}
use Rattle.rs_policy.specs.Rules.{client_named}
use Rattle.rs_control.specs.declared.order.Order.{Order}
use Rattle.rs_control.specs.declared.order.Order.TheVariants as orders
use Rattle.rs_control.specs.declared.lines.Cause.{Cause}
use Rattle.rs_control.specs.declared.lines.Cause.TheVariants as causes
use Rattle.rs_control.specs.declared.lines.Asked.{Asked}
use Rattle.rs_control.specs.declared.lines.Asked.TheVariants as asked

-- what is asked for; a member by its place, a prefix by its text
pub data Meaning : Type 0 where
  Help : Meaning
  Show : Meaning
  ShowMember : ℕ → Meaning
  Why : ℕ → List ℕ → Meaning
  Ordered : Order → Meaning
  -- nothing, and the word at fault
  Refused : Cause → List ℕ → Meaning

abbrev pub meaning_of : Asked → Meaning
meaning_of asked.Help = Help
meaning_of asked.Show = Show
meaning_of (asked.ShowMember c) = ShowMember c
meaning_of (asked.Why c prefix) = Why c prefix.now
meaning_of (asked.Order order) = Ordered order
meaning_of (asked.Refused cause word) = Refused cause word.now

abbrev pub is_space : ℕ → Bool
is_space octet = octet == 32

-- without the spaces before it
abbrev pub unspaced : List ℕ → List ℕ
unspaced [] = []
unspaced (octet ∷ octets) = if is_space octet then unspaced octets else octet ∷ octets

-- the first word, and what stands behind it
abbrev pub word_of : List ℕ → List ℕ
word_of text = before_first is_space text

abbrev pub behind_word : List ℕ → List ℕ
behind_word text = unspaced (after_first is_space text)

-- the place of the member with this name
abbrev pub member_named : Configuration → List ℕ → Option ℕ
member_named config name = if is_utf8 name then client_named config.clients name else None

-- a member, and what stands behind its name; or the cause and the word at fault
abbrev pub named_as : Option ℕ → List ℕ → List ℕ → Result (ℕ × List ℕ) (Cause × List ℕ)
named_as None name rest = Err (causes.UnknownMember, name)
named_as (Some c) name rest = Ok (c, rest)

abbrev pub named_in : Configuration → List ℕ → Result (ℕ × List ℕ) (Cause × List ℕ)
named_in config [] = Err (causes.NoName, [])
named_in config (octet ∷ octets) = named_as (member_named config (word_of (octet ∷ octets))) (word_of (octet ∷ octets)) (behind_word (octet ∷ octets))

-- where nothing stands behind it
abbrev pub alone : List ℕ → Meaning → Meaning
alone [] meaning = meaning
alone (octet ∷ octets) meaning = Refused causes.TooMuch (word_of (octet ∷ octets))

-- of the member that is named, and what stands behind
abbrev pub of_member : (ℕ → List ℕ → Meaning) → Result (ℕ × List ℕ) (Cause × List ℕ) → Meaning
of_member meaning (Ok named) = meaning named.0 named.1
of_member meaning (Err fault) = Refused fault.0 fault.1

abbrev pub show_of : Configuration → List ℕ → Meaning
show_of config [] = Show
show_of config (octet ∷ octets) = of_member (λ c rest. alone rest (ShowMember c)) (named_in config (octet ∷ octets))

-- an octet of an address with a length: a digit, a dot, a slash
abbrev pub is_prefix_octet : ℕ → Bool
is_prefix_octet octet = is_ascii_digit octet || octet == 46 || octet == 47

abbrev pub are_prefix_octets : List ℕ → Bool
are_prefix_octets word = list_all is_prefix_octet word

abbrev pub why_of : ℕ → List ℕ → Meaning
why_of c [] = Refused causes.NoPrefix []
why_of c (octet ∷ octets) =
    if are_prefix_octets (word_of (octet ∷ octets))
    then alone (behind_word (octet ∷ octets)) (Why c (word_of (octet ∷ octets)))
    else Refused causes.NotPrefix (word_of (octet ∷ octets))

-- an order with a text, which is all that stands behind
abbrev pub with_text : (ShutdownText → Meaning) → List ℕ → Option ShutdownText → Meaning
with_text meaning text None = Refused causes.LongText text
with_text meaning text (Some it) = meaning it

abbrev pub why_meaning : Configuration → List ℕ → Meaning
why_meaning config rest = of_member why_of (named_in config rest)

abbrev pub disable_meaning : Configuration → List ℕ → Meaning
disable_meaning config rest = of_member (λ c text. with_text (λ it. Ordered (orders.Disable c it)) text (shutdown_text text)) (named_in config rest)

abbrev pub enable_meaning : Configuration → List ℕ → Meaning
enable_meaning config rest = of_member (λ c behind. alone behind (Ordered (orders.Enable c))) (named_in config rest)

abbrev pub refresh_meaning : Configuration → List ℕ → Meaning
refresh_meaning config rest = of_member (λ c behind. alone behind (Ordered (orders.Refresh c))) (named_in config rest)

abbrev pub no_command : List ℕ → Meaning
no_command [] = Refused causes.NoCommand []
no_command (octet ∷ octets) = Refused causes.UnknownCommand (octet ∷ octets)

-- a command's word, and what it asks for with what stands behind it
abbrev pub Command : Type 0
Command = List ℕ × (Configuration → List ℕ → Meaning)

-- the commands; those from the sixth on name no member
abbrev pub commands : List Command
commands =
    (codes "show", show_of)
    ∷ (codes "why", why_meaning)
    ∷ (codes "disable", disable_meaning)
    ∷ (codes "enable", enable_meaning)
    ∷ (codes "refresh", refresh_meaning)
    ∷ (codes "reload", λ config rest. alone rest (Ordered orders.Reload))
    ∷ (codes "stop", λ config rest. alone rest (Ordered orders.End))
    ∷ (codes "help", λ config rest. alone rest Help)
    ∷ []

-- the one of these that has this word, with what stands behind it
abbrev pub meaning_among : List Command → Configuration → List ℕ → List ℕ → Meaning
meaning_among [] config word rest = no_command word
meaning_among (it ∷ others) config word rest = if bytes_eq word it.0 then it.1 config rest else meaning_among others config word rest

abbrev pub command_meaning : Configuration → List ℕ → List ℕ → Meaning
command_meaning config word rest = meaning_among commands config word rest

-- a line, without its end
abbrev pub line_meaning : Configuration → List ℕ → Meaning
line_meaning config line =
    if is_utf8 line
    then command_meaning config (word_of (unspaced line)) (behind_word (unspaced line))
    else Refused causes.NotUtf8 []
