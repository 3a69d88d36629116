-- Sets of clients, as bits.
use Rattle.std.proofs.Common.{◌≡◌, ◌<◌, ◌≤◌, ◌==◌, ◌+◌, ◌-◌, ◌*◌, ◌/◌, ◌%◌, ◌^◌, ℕ, true, false, List, length, inl, inr, ◌∙◌, ap, arith, w64}
use Rattle.std.specs.Prelude.{slice_index, slice_set, bit_and, bit_or, if◌then◌else◌}
use Rattle.std.specs.Int.{bit_at, bit_not, trailing_zeros}
use Rattle.std.proofs.Math.ListN.{replicate}
use Rattle.std.proofs.lemmas.Bool.{cases_lt}
use Rattle.std.proofs.lemmas.List.{get_or-replicate}
use Rattle.std.proofs.lemmas.Nat.Bits.{bit_at_ones, bit_at_set_same, bit_at_set_other, bit_at_clear_same, bit_at_clear_other}
use Rattle.rs_adjin.specs.Held.{bit_of}
use Rattle.rs_adjin.proofs.Bits.{none_behind, lowest, written}

-- all bits of eight words
pub all_set : (c : ℕ) → c < 512 → bit_of (replicate 8 (2 ^ 64 - 1)) c ≡ true
all_set c few = ap (λ w. bit_at w (c % 64) == 1) (get_or-replicate 8 (c / 64) (2 ^ 64 - 1) 0 (omega (arith, few))) ∙ ap (λ b. b == 1) (bit_at_ones 64 (c % 64) (omega arith))

-- one bit more, and one less
pub with_bit : (words : List ℕ) (c : ℕ) → c / 64 < length words → (d : ℕ)
    → bit_of (slice_set words (c / 64) (bit_or (slice_index words (c / 64)) (1 * 2 ^ (c % 64) % 2 ^ 64))) d ≡ (if d == c then true else bit_of words d)
with_bit words c below =
    let word = slice_index words (c / 64) in
    written words c _ true below (ap (λ x. x == 1) (bit_at_set_same w64 word (c % 64) (omega arith))) (λ i small ne. bit_at_set_other w64 word (c % 64) (omega arith) i ne)

pub without_bit : (words : List ℕ) (c : ℕ) → c / 64 < length words → (d : ℕ)
    → bit_of (slice_set words (c / 64) (bit_and (slice_index words (c / 64)) (bit_not w64 (1 * 2 ^ (c % 64) % 2 ^ 64)))) d ≡ (if d == c then false else bit_of words d)
without_bit words c below =
    let word = slice_index words (c / 64) in
    written words c _ false below (ap (λ x. x == 1) (bit_at_clear_same w64 word (c % 64) (omega arith))) (λ i small ne. bit_at_clear_other w64 word (c % 64) (omega arith) i small ne)

-- bit i of the word at a place
bit_in : (words : List ℕ) (place i c : ℕ) → c ≡ place * 64 + i → i < 64 → bit_of words c ≡ (bit_at (slice_index words place) i == 1)
bit_in words place i c is small =
    let word : c / 64 ≡ place = omega (arith, is, small) in
    let bit : c % 64 ≡ i = omega (arith, is, small) in
    ap (λ k. bit_at (slice_index words k) (c % 64) == 1) word ∙ ap (λ k. bit_at (slice_index words place) k == 1) bit

-- no bit of a word is set from one on
pub none_in_word : (words : List ℕ) (place bit c : ℕ) → slice_index words place / 2 ^ bit ≡ 0 → place * 64 + bit ≤ c → c < (place + 1) * 64 → bit_of words c ≡ false
none_in_word words place bit c none low high =
    let is : c ≡ place * 64 + (c - place * 64) = omega (arith, low) in
    let small : c - place * 64 < 64 = omega (arith, low, high) in
    let from : bit ≤ c - place * 64 = omega (arith, low) in
    bit_in words place (c - place * 64) c is small ∙ ap (λ x. x == 1) (none_behind (slice_index words place) bit none (c - place * 64) from)

pub record IsLowest (words : List ℕ) (place bit c : ℕ) : Type 0 where
  pub from : place * 64 + bit ≤ c
  pub below : c < (place + 1) * 64
  pub there : bit_of words c ≡ true
  pub none : (d : ℕ) → place * 64 + bit ≤ d → d < c → bit_of words d ≡ false

-- the lowest bit of a word that is set, from one on
pub lowest_in_word : (words : List ℕ) (place bit : ℕ) → slice_index words place < 2 ^ 64 → slice_index words place / 2 ^ bit < 2 ^ 64 → 0 < slice_index words place / 2 ^ bit
    → IsLowest words place bit (place * 64 + bit + trailing_zeros w64 (slice_index words place / 2 ^ bit))
lowest_in_word words place bit small rest some =
    let word = slice_index words place in
    let t : ℕ = trailing_zeros w64 (word / 2 ^ bit) in
    let facts = lowest word bit small rest some in
    let is : place * 64 + bit + t ≡ place * 64 + (bit + t) = omega arith in
    record {
      from = omega arith;
      below = omega (arith, facts.0);
      there = bit_in words place (bit + t) (place * 64 + bit + t) is facts.0 ∙ ap (λ x. x == 1) facts.1;
      none = λ d low high.
          let at : d ≡ place * 64 + (d - place * 64) = omega (arith, low) in
          let within : d - place * 64 < 64 = omega (arith, low, high, facts.0) in
          let from : bit ≤ d - place * 64 = omega (arith, low) in
          let before : d - place * 64 < bit + t = omega (arith, low, high) in
          bit_in words place (d - place * 64) d at within ∙ ap (λ x. x == 1) (facts.2 (d - place * 64) from before);
    }

-- so from one before it too, where no bit is set between
pub none_below : (words : List ℕ) (first place bit c : ℕ) → ((n : ℕ) → first ≤ n → n < place * 64 + bit → bit_of words n ≡ false) → IsLowest words place bit c → (d : ℕ) → first ≤ d → d < c → bit_of words d ≡ false
none_below words first place bit c before lowest d low high = elim (cases_lt d (place * 64 + bit)) [
  | inl h ↦ before d low h
  | inr h ↦ lowest.none d h high
]
