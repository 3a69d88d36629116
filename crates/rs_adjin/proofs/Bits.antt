-- Bits of words.
use Rattle.std.proofs.Common.{Bool, true, false, ◌≡◌, ◌≢◌, ◌<◌, ◌≤◌, ◌==◌, ◌+◌, ◌-◌, ◌/◌, ◌%◌, ◌^◌, ℕ, List, length, sym, ◌∙◌, ap, arith, w64, inl, inr}
use Rattle.std.specs.Prelude.{slice_index, slice_set, if◌then◌else◌}
use Rattle.std.specs.Int.{bit_at, trailing_zeros}
use Rattle.std.proofs.lemmas.Bool.{cases_eq, cases_lt}
use Rattle.std.proofs.lemmas.Bool.Decides.{nat_tests}
use Rattle.std.proofs.lemmas.Nat.{shr-shr}
use Rattle.std.proofs.lemmas.Nat.Bits.{bit_at-zero, bit_at_above, bit_at-trailing_zeros}
use Rattle.std.proofs.lemmas.List.{get_or-set_same, get_or-set_other}
use Rattle.std.proofs.Math.ListN.{get_or-eq_default}
use Rattle.rs_adjin.specs.Held.{bit_of}

-- ---- a word behind its first bits

shifted : (word k i : ℕ) → bit_at (word / 2 ^ k) i ≡ bit_at word (k + i)
shifted word k i = ap (λ x. x % 2) (shr-shr word k i)

behind : (word k i : ℕ) → k ≤ i → bit_at word i ≡ bit_at (word / 2 ^ k) (i - k)
behind word k i low = let e : k + (i - k) ≡ i = omega (arith, low) in sym (shifted word k (i - k) ∙ ap (bit_at word) e)

pub none_behind : (word k : ℕ) → word / 2 ^ k ≡ 0 → (i : ℕ) → k ≤ i → bit_at word i ≡ 0
none_behind word k none i low = behind word k i low ∙ (ap (λ x. bit_at x (i - k)) none ∙ bit_at-zero (i - k))

pub lowest : (word k : ℕ) → word < 2 ^ 64 → word / 2 ^ k < 2 ^ 64 → 0 < word / 2 ^ k
    → (k + trailing_zeros w64 (word / 2 ^ k) < 64) × (bit_at word (k + trailing_zeros w64 (word / 2 ^ k)) ≡ 1) × ((i : ℕ) → k ≤ i → i < k + trailing_zeros w64 (word / 2 ^ k) → bit_at word i ≡ 0)
lowest word k small rest some =
    let t : ℕ = trailing_zeros w64 (word / 2 ^ k) in
    let facts = bit_at-trailing_zeros w64 (word / 2 ^ k) some rest in
    let set : bit_at word (k + t) ≡ 1 = sym (shifted word k t) ∙ facts.1 in
    let within : k + t < 64 = elim (cases_lt (k + t) 64) [ inl h ↦ h | inr h ↦ absurd (let zero_there : bit_at word (k + t) ≡ 0 = bit_at_above word 64 (k + t) small h in omega (arith, set, zero_there)) ] in
    (within, set, λ i low high. behind word k i low ∙ facts.2 (i - k) (omega (arith, low, high)))

-- ---- one word written

pub beyond : (words : List ℕ) (n : ℕ) → length words ≤ n / 64 → bit_of words n ≡ false
beyond words n above =
    let none : bit_at (slice_index words (n / 64)) (n % 64) ≡ 0 = ap (λ x. bit_at x (n % 64)) (get_or-eq_default words 0 above) ∙ bit_at-zero (n % 64) in
    ap (λ b. b == 1) none

pub within : (words : List ℕ) (n : ℕ) → bit_of words n ≡ true → n / 64 < length words
within words n set = elim (cases_lt (n / 64) (length words)) [
  | inl h ↦ h
  | inr h ↦ absurd (let e : true ≡ false = sym set ∙ beyond words n h in (cc))
]

-- a word has other bits at the place of n
pub written : (words : List ℕ) (n word : ℕ) (b : Bool) → n / 64 < length words → (bit_at word (n % 64) == 1) ≡ b
    → ((i : ℕ) → i < 64 → i ≢ n % 64 → bit_at word i ≡ bit_at (slice_index words (n / 64)) i) → (m : ℕ) → bit_of (slice_set words (n / 64) word) m ≡ (if m == n then b else bit_of words m)
written words n word b below here others m = elim (cases_eq (m / 64) (n / 64)) [
  | inl same ↦ elim (cases_eq (m % 64) (n % 64)) [
    | inl at ↦
        let e : m ≡ n = omega (arith, same, at) in
        let is : (m == n) ≡ true = grind (arith, nat_tests, e) in
        ap (λ k. bit_at (slice_index (slice_set words (n / 64) word) k) (m % 64) == 1) same ∙ (ap (λ w. bit_at w (m % 64) == 1) (get_or-set_same words (n / 64) word 0 below)
        ∙ (ap (λ i. bit_at word i == 1) at ∙ (here ∙ sym (ap (λ t. if t then b else bit_of words m) is))))
    | inr ne ↦
        let not : (m == n) ≡ false = grind (arith, nat_tests, ne) in
        ap (λ k. bit_at (slice_index (slice_set words (n / 64) word) k) (m % 64) == 1) same ∙ (ap (λ w. bit_at w (m % 64) == 1) (get_or-set_same words (n / 64) word 0 below)
        ∙ (ap (λ x. x == 1) (others (m % 64) (omega arith) ne) ∙ (ap (λ k. bit_at (slice_index words k) (m % 64) == 1) (sym same) ∙ sym (ap (λ t. if t then b else bit_of words m) not))))
  ]
  | inr ne ↦
      let not : (m == n) ≡ false = grind (arith, nat_tests, ne) in
      ap (λ w. bit_at w (m % 64) == 1) (get_or-set_other words (n / 64) (m / 64) word 0 ne) ∙ sym (ap (λ t. if t then b else bit_of words m) not)
]
