-- The line of a chunk's size.
use Rattle.std.proofs.Common.{◌≡◌, ℕ, ◌+◌, ◌*◌, ◌/◌, ◌%◌, ◌<◌, List, [], ◌∷◌, refl, subst, arith}
use Rattle.std.specs.Char.{digit_char, digit_value}
use Rattle.std.specs.Str.Parse.{digits_value}
use Rattle.std.proofs.lemmas.Str.{digit_value-digit_char}
use Rattle.rs_window.specs.Chunks.{IsSizeLine}

-- four hexadecimal digits
abbrev pub four : ℕ → ℕ → ℕ → ℕ → List ℕ
four a b c d = digit_char a ∷ digit_char b ∷ digit_char c ∷ digit_char d ∷ []

is_digit : (d : ℕ) → d < 16 → digit_value (digit_char d) < 16
is_digit d h = let e : digit_value (digit_char d) ≡ d = digit_value-digit_char d (omega arith) in omega arith

value_of_four : (a b c d : ℕ) → a < 16 → b < 16 → c < 16 → d < 16 → digits_value 16 (four a b c d) ≡ ((a * 16 + b) * 16 + c) * 16 + d
value_of_four a b c d ha hb hc hd =
    let ea : digit_value (digit_char a) ≡ a = digit_value-digit_char a (omega arith) in
    let eb : digit_value (digit_char b) ≡ b = digit_value-digit_char b (omega arith) in
    let ec : digit_value (digit_char c) ≡ c = digit_value-digit_char c (omega arith) in
    let ed : digit_value (digit_char d) ≡ d = digit_value-digit_char d (omega arith) in
    omega arith

-- they are the line of the number that they spell
pub line_of_four : (size a b c d : ℕ) → a < 16 → b < 16 → c < 16 → d < 16 → size ≡ ((a * 16 + b) * 16 + c) * 16 + d → IsSizeLine size (digit_char a ∷ digit_char b ∷ digit_char c ∷ digit_char d ∷ 13 ∷ 10 ∷ [])
line_of_four size a b c d ha hb hc hd e = record {
  digits = four a b c d;
  numeral = (omega arith, (is_digit a ha, (is_digit b hb, (is_digit c hc, (is_digit d hd, tt)))));
  size_is = let v = value_of_four a b c d ha hb hc hd in omega arith;
  octets_are = refl;
}

-- the digits of the two octets of a number
pub line_of : (size high low a b c d : ℕ) → size ≡ 256 * high + low → high < 256 → low < 256 → a ≡ digit_char (high / 16) → b ≡ digit_char (high % 16) → c ≡ digit_char (low / 16) → d ≡ digit_char (low % 16) → IsSizeLine size (a ∷ b ∷ c ∷ d ∷ 13 ∷ 10 ∷ [])
line_of size high low a b c d e hh hl ea eb ec ed =
    let line : IsSizeLine size (digit_char (high / 16) ∷ digit_char (high % 16) ∷ digit_char (low / 16) ∷ digit_char (low % 16) ∷ 13 ∷ 10 ∷ []) = line_of_four size (high / 16) (high % 16) (low / 16) (low % 16) (omega arith) (omega arith) (omega arith) (omega arith) (omega arith) in
    let same : digit_char (high / 16) ∷ digit_char (high % 16) ∷ digit_char (low / 16) ∷ digit_char (low % 16) ∷ 13 ∷ 10 ∷ [] ≡ a ∷ b ∷ c ∷ d ∷ 13 ∷ 10 ∷ [] = cc in
    subst (λ l. IsSizeLine size l) same line
