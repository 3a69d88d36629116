-- Numbers, addresses, prefixes and texts, as pages have them.
use Rattle.std.specs.Prelude.{ℕ, ◌/◌, ◌%◌, ◌+◌, ◌==◌, ◌&&◌, Bool, not, nat_le, nat_lt, if◌then◌else◌, List, [], ◌∷◌, ◌++◌, codes, decimal, flat_map}
use Rattle.std.specs.Int.{w32, to_be_bytes}
use Rattle.rs_octets.specs.Prefixes.{Prefix}

-- four numbers with points between
abbrev pub dotted : List ℕ → List ℕ
dotted (a ∷ b ∷ c ∷ d ∷ []) = decimal a ++ codes "." ++ decimal b ++ codes "." ++ decimal c ++ codes "." ++ decimal d
dotted octets = []

unfoldable pub address_text : ℕ → List ℕ
address_text address = dotted (to_be_bytes w32 address)

unfoldable pub prefix_text : Prefix → List ℕ
prefix_text p = address_text p.bits ++ codes "/" ++ decimal p.len

-- the octet stands for itself in a string of JSON and in HTML alike: no control octet, and none of " & ' < > \
abbrev pub is_plain : ℕ → Bool
is_plain octet = nat_le 32 octet && (not (octet == 127) && (not (octet == 34) && (not (octet == 38) && (not (octet == 39) && (not (octet == 60) && (not (octet == 62) && not (octet == 92)))))))

-- a lower case hexadecimal digit
abbrev pub hex_digit : ℕ → ℕ
hex_digit number = if nat_lt number 10 then 48 + number else 87 + number

-- an octet within a string of JSON (RFC 8259, 7)
abbrev pub json_octet : ℕ → List ℕ
json_octet octet = if is_plain octet then octet ∷ [] else codes "\\u00" ++ (hex_digit (octet / 16) ∷ hex_digit (octet % 16) ∷ [])

abbrev pub json_text : List ℕ → List ℕ
json_text octets = flat_map json_octet octets

-- an octet within a text of HTML, or within a value in quotation marks
abbrev pub html_octet : ℕ → List ℕ
html_octet octet = if is_plain octet then octet ∷ [] else codes "&#" ++ decimal octet ++ codes ";"

abbrev pub html_text : List ℕ → List ℕ
html_text octets = flat_map html_octet octets
