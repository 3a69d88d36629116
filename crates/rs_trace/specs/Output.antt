-- The lines of a replay's output.
use Rattle.std.specs.Prelude.{ℕ, ◌/◌, ◌%◌, List, [], ◌∷◌, ◌++◌, codes, decimal}
use Rattle.rs_trace.specs.declared.trace.LineFault.{LineFault}
use Rattle.rs_trace.specs.declared.trace.LineFault.TheVariants.{TooLong, UnknownWord, WordCount, UnknownClient, BadNumber, BadHex, TextTooLong}
use Rattle.rs_octets.specs.Prefixes.{Prefix}
use Rattle.hex.specs.Hex.{encode_lower}

-- a word, a space, a name
abbrev pub client_line : List ℕ → List ℕ → List ℕ
client_line word name = word ++ codes " " ++ name ++ (10 ∷ [])

-- octets that a client is sent, in lower case hex
abbrev pub sent_line : List ℕ → List ℕ → List ℕ
sent_line name octets = codes "sent " ++ name ++ codes " " ++ encode_lower octets ++ (10 ∷ [])

-- a prefix as four numbers and its length
abbrev pub prefix_text : Prefix → List ℕ
prefix_text p =
    decimal (p.bits / 16777216) ++ codes "." ++ decimal (p.bits / 65536 % 256) ++ codes "." ++ decimal (p.bits / 256 % 256) ++ codes "." ++ decimal (p.bits % 256) ++ codes "/" ++ decimal p.len

-- a route of a client's Loc-RIB: its prefix, and its attributes as they are spelt, in lower case hex
abbrev pub route_line : List ℕ → Prefix → List ℕ → List ℕ
route_line name p attributes = codes "route " ++ name ++ codes " " ++ prefix_text p ++ codes " " ++ encode_lower attributes ++ (10 ∷ [])

abbrev pub accepted_line : List ℕ
accepted_line = codes "rules accepted" ++ (10 ∷ [])

-- why a configuration was refused
abbrev pub refused_line : List ℕ → List ℕ
refused_line text = codes "rules refused: " ++ text ++ (10 ∷ [])

abbrev pub fault_text : LineFault → List ℕ
fault_text TooLong = codes "too long"
fault_text UnknownWord = codes "unknown word"
fault_text WordCount = codes "word count"
fault_text UnknownClient = codes "unknown client"
fault_text BadNumber = codes "bad number"
fault_text BadHex = codes "bad hex"
fault_text TextTooLong = codes "text too long"

-- a line's fault, with the line's number in decimal digits
abbrev pub fault_line : ℕ → LineFault → List ℕ
fault_line n fault = codes "line " ++ decimal n ++ codes ": " ++ fault_text fault ++ (10 ∷ [])
