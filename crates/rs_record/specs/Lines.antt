-- The lines of a record.
use Rattle.std.specs.Prelude.{ℕ, List, [], ◌∷◌, ◌++◌, codes}
use Rattle.hex.specs.Hex.{encode_lower}

-- a word and one operand behind it, or two
abbrev pub one_operand : List ℕ → List ℕ → List ℕ
one_operand word operand = word ++ (32 ∷ []) ++ operand ++ (10 ∷ [])

abbrev pub two_operands : List ℕ → List ℕ → List ℕ → List ℕ
two_operands word first second = word ++ (32 ∷ []) ++ first ++ (32 ∷ []) ++ second ++ (10 ∷ [])

-- the end of a session that the operator commands, with the octets of a text or without
abbrev pub shutdown_line : List ℕ → List ℕ → List ℕ
shutdown_line name [] = one_operand (codes "shutdown") name
shutdown_line name (octet ∷ octets) = two_operands (codes "shutdown") name (encode_lower (octet ∷ octets))
