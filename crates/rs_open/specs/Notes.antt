-- NOTIFICATIONs by their data (RFC 4271, 4.5), and how long a message may be.
use Rattle.std.specs.Prelude.{◌≡◌, ℕ, zero, suc, ◌-◌, ◌&&◌, nat_le, min, List, [], ◌∷◌, ◌++◌, length, take, replicate, Option, Some, None, if◌then◌else◌}
use Rattle.std.specs.Str.{is_utf8}
use Rattle.rs_octets.specs.declared.notification.Notification.TheVariants as names
use Rattle.rs_octets.specs.declared.notification.Notification.{Notification}
use Rattle.rs_octets.specs.Names.{code_of, sub_of, IsNamed}
use Rattle.rs_octets.specs.Numbers.{longest_message, longest_extended_message}
use Rattle.rs_open.specs.declared.short.Short.{Short}
use Rattle.rs_open.specs.declared.short.Short.TheVariants.{Open, Keepalive, Note}
use Rattle.rs_open.specs.declared.shutdown.ShutdownText.{ShutdownText}
use Rattle.rs_open.specs.declared.short.Limit.{Limit}
use Rattle.rs_open.specs.declared.short.Limit.TheVariants as limits

-- an error code and a subcode, without data
abbrev pub note : ℕ → ℕ → Short
note code sub = Note code sub (replicate 129 0) 0

-- those of a name, without data
abbrev pub note_of : Notification → Short
note_of name = note (code_of name) (sub_of name)

-- the message is a NOTIFICATION with the error code and the subcode of that name
abbrev pub IsNameOf : Short → Notification → Type 0
IsNameOf (Note code sub extra count) name = IsNamed name code sub
IsNameOf Open name = ⊥
IsNameOf Keepalive name = ⊥

-- with one octet of data
abbrev pub note_1 : ℕ → ℕ → ℕ → Short
note_1 code sub a = Note code sub (a ∷ replicate 128 0) 1

-- with two octets of data
abbrev pub note_2 : ℕ → ℕ → ℕ → ℕ → Short
note_2 code sub a b = Note code sub (a ∷ b ∷ replicate 127 0) 2

-- ---- the end that an operator commands (RFC 4486, 4; RFC 9003)

-- the text of octets of UTF-8, which are 128 at most: so many every receiver takes (RFC 8203, 2)
abbrev pub shutdown_text : List ℕ → Option ShutdownText
shutdown_text octets =
    if nat_le (length octets) 128 && is_utf8 octets
    then Some (record { octets = octets ++ replicate (128 - length octets) 0; count = length octets })
    else None

abbrev pub no_text : ShutdownText
no_text = record { octets = replicate 128 0; count = 0 }

abbrev pub text_octets : ShutdownText → List ℕ
text_octets text = take (min text.count 128) text.octets

-- a length octet and the text, or nothing where there is none (RFC 9003, 2)
abbrev pub shutdown_data : List ℕ → List ℕ
shutdown_data [] = []
shutdown_data (octet ∷ octets) = length (octet ∷ octets) ∷ octet ∷ octets

-- with the length octet, where there is a text
abbrev pub data_count : ℕ → ℕ
data_count zero = 0
data_count (suc count) = suc (suc count)

abbrev pub shutdown_note : ShutdownText → Short
shutdown_note text =
    Note (code_of names.AdministrativeShutdown) (sub_of names.AdministrativeShutdown)
    (min text.count 128 ∷ text.octets) (data_count (min text.count 128))

-- the message is a NOTIFICATION with these octets as its data
abbrev pub HasData : Short → List ℕ → Type 0
HasData (Note code sub extra count) data_octets = take count extra ≡ data_octets
HasData Open data_octets = ⊥
HasData Keepalive data_octets = ⊥

-- ----

-- the octets that the longest message has
abbrev pub limit_octets : Limit → ℕ
limit_octets limits.Short = longest_message
limit_octets limits.Long = longest_extended_message
