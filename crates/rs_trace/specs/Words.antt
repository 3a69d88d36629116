-- The words of a line: what stands before, between and after its spaces.
use Rattle.std.specs.Prelude.{◌≡◌, ℕ, ◌<◌, ◌==◌, if◌then◌else◌, List, [], ◌∷◌, length}
use Rattle.rs_trace.specs.declared.words.Operands.{Operands}
use Rattle.rs_trace.specs.declared.words.Operands.TheVariants.{Nothing, One, Two, More}

-- a row of words, the first of them with an octet more at its front
abbrev pub lengthen : ℕ → List (List ℕ) → List (List ℕ)
lengthen octet [] = (octet ∷ []) ∷ []
lengthen octet (word ∷ others) = (octet ∷ word) ∷ others

-- a split at each single space, so a word may be empty and no line is without one
abbrev pub words_of : List ℕ → List (List ℕ)
words_of [] = [] ∷ []
words_of (octet ∷ octets) = if octet == 32 then [] ∷ words_of octets else lengthen octet (words_of octets)

-- these are a line's words after its first
abbrev pub AreOperands : Operands → List (List ℕ) → Type 0
AreOperands Nothing ws = ws ≡ []
AreOperands (One a) ws = ws ≡ a.now ∷ []
AreOperands (Two a b) ws = ws ≡ a.now ∷ b.now ∷ []
AreOperands More ws = 2 < length ws
