-- A body in chunks (RFC 9112, section 7.1), without extensions and trailers.
use Rattle.std.specs.Prelude.{◌≡◌, ℕ, ◌<◌, Bool, true, false, List, [], ◌∷◌, ◌++◌, length, if◌then◌else◌}
use Rattle.std.specs.Str.Parse.{IsNumeral, digits_value}
use Rattle.httparse.specs.Ascii.{crlf_bytes}

-- these octets are the line of a chunk of so many octets: hexadecimal digits, CR LF
pub record IsSizeLine (size : ℕ) (octets : List ℕ) : Type 0 where
  pub digits : List ℕ
  pub numeral : IsNumeral 16 digits
  pub size_is : digits_value 16 digits ≡ size
  pub octets_are : octets ≡ digits ++ crlf_bytes

-- a chunk: its line, its data, CR LF
pub record IsChunk (data_octets chunk : List ℕ) : Type 0 where
  pub line : List ℕ
  pub is_line : IsSizeLine (length data_octets) line
  pub is_some : 0 < length data_octets
  pub octets_are : chunk ≡ line ++ data_octets ++ crlf_bytes

-- the chunk of no octets, and an empty trailer
abbrev pub last_chunk : List ℕ
last_chunk = (48 ∷ crlf_bytes) ++ crlf_bytes

-- a piece is carried by a chunk, or by nothing where it is empty
abbrev pub IsCarried : List ℕ → List ℕ → Type 0
IsCarried [] sent = sent ≡ []
IsCarried (octet ∷ octets) sent = IsChunk (octet ∷ octets) sent

-- a piece as it is sent, in chunks or plainly, the last of its page or not
abbrev pub IsFramed : Bool → List ℕ → Bool → List ℕ → Type 0
IsFramed false piece is_end sent = sent ≡ piece
IsFramed true piece is_end sent = (chunk : List ℕ) × IsCarried piece chunk × (sent ≡ chunk ++ (if is_end then last_chunk else []))

-- a body in chunks, and what it carries
pub data Decodes : List ℕ → List ℕ → Type 0 where
  Last : Decodes last_chunk []
  More : (piece chunk body octets : List ℕ) → IsChunk piece chunk → Decodes body octets → Decodes (chunk ++ body) (piece ++ octets)

-- pieces, and what was sent of them but the end
pub data AreCarried : List ℕ → List ℕ → Type 0 where
  Nothing : AreCarried [] []
  Piece : (piece chunk octets sent : List ℕ) → IsCarried piece chunk → AreCarried octets sent → AreCarried (piece ++ octets) (chunk ++ sent)
