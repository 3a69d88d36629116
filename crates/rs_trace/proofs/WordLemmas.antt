-- Words by the place of the first space.
use Rattle.std.proofs.Common.{◌≡◌, ℕ, ◌+◌, ◌<◌, List, [], ◌∷◌, length, take, drop, suc, refl, arith, Bool, true, false}
use Rattle.std.specs.Prelude.{◌==◌, if◌then◌else◌, position, Some, None}
use Rattle.std.specs.List.{position_or_len}
use Rattle.std.proofs.lemmas.Bool.Decides.{nat_tests}
use Rattle.std.proofs.lemmas.List.Quantifiers.{position-Some}
use Rattle.std.proofs.lemmas.List.Sums.{position_or_len_is, prefix_len-le-length}
use Rattle.rs_trace.specs.Words.{words_of, lengthen}

abbrev pub space : ℕ → Bool
space octet = octet == 32

-- the words where there is a space: what stands before it, and the words after it
abbrev pub split_words_at : List ℕ → ℕ → List (List ℕ)
split_words_at text at = take at text ∷ words_of (drop (at + 1) text)

one_on : (n : ℕ) → 1 + n ≡ suc n
one_on n = omega arith

split_at : (x : ℕ) (xs : List ℕ) (b : Bool) → space x ≡ b → (position_or_len space xs < length xs → words_of xs ≡ split_words_at xs (position_or_len space xs)) → position_or_len space (x ∷ xs) < length (x ∷ xs) → words_of (x ∷ xs) ≡ split_words_at (x ∷ xs) (position_or_len space (x ∷ xs))
split_at x xs true e ih h = rw e refl
split_at x xs false e ih h =
    let shorter : 1 + position_or_len space xs < suc (length xs) = rw e at h in
    let behind : words_of xs ≡ split_words_at xs (position_or_len space xs) = ih (omega (arith, shorter)) in
    let place : 1 + position_or_len space xs ≡ suc (position_or_len space xs) = one_on (position_or_len space xs) in
    let next : suc (position_or_len space xs) + 1 ≡ suc (position_or_len space xs + 1) = omega arith in
    rw e (rw behind (rw place (rw next refl)))

pub words_of-split : (text : List ℕ) → position_or_len space text < length text → words_of text ≡ split_words_at text (position_or_len space text)
words_of-split [] h = absurd (omega (arith, h))
words_of-split (x ∷ xs) h = split_at x xs (space x) refl (λ k. words_of-split xs k) h

whole_at : (x : ℕ) (xs : List ℕ) (b : Bool) → space x ≡ b → (position_or_len space xs ≡ length xs → words_of xs ≡ xs ∷ []) → position_or_len space (x ∷ xs) ≡ length (x ∷ xs) → words_of (x ∷ xs) ≡ (x ∷ xs) ∷ []
whole_at x xs true e ih h =
    let never : 0 ≡ suc (length xs) = rw e at h in
    absurd (omega (arith, never))
whole_at x xs false e ih h =
    let all : 1 + position_or_len space xs ≡ suc (length xs) = rw e at h in
    rw e (rw (ih (omega (arith, all))) refl)

-- without a space all is one word
pub words_of-whole : (text : List ℕ) → position_or_len space text ≡ length text → words_of text ≡ text ∷ []
words_of-whole [] h = refl
words_of-whole (x ∷ xs) h = whole_at x xs (space x) refl (λ k. words_of-whole xs k) h

-- no line is without a word
pub words_of-some : (text : List ℕ) → 0 < length (words_of text)
words_of-some [] = omega arith
words_of-some (x ∷ xs) = elim (space x) as (λ b. 0 < length (if b then [] ∷ words_of xs else lengthen x (words_of xs))) [ true ↦ omega arith | false ↦ lengthened x (words_of xs) ]
  where
    lengthened : (x : ℕ) (ws : List (List ℕ)) → 0 < length (lengthen x ws)
    lengthened x [] = omega arith
    lengthened x (w ∷ ws) = omega arith

-- the place of the first space, where there is one
pub place_of_space : (text : List ℕ) (i : ℕ) → position space text ≡ Some i → (i < length text) × (position_or_len space text ≡ i)
place_of_space text i h =
    let facts = position-Some space text i 0 h in
    (facts.0, position_or_len_is space text i 0 (omega (arith, facts.0)) facts.2 (λ k. facts.1))

pub no_space : (text : List ℕ) → position space text ≡ None → position_or_len space text ≡ length text
no_space text h = grind (arith, nat_tests, prefix_len-le-length {X = ℕ})
