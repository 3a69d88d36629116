-- An address whose octets behind the length were left out reads as it was.
use Rattle.std.proofs.Common.{◌≡◌, ℕ, zero, suc, ◌+◌, ◌-◌, ◌*◌, ◌/◌, ◌^◌, ◌<◌, ◌≤◌, [], ◌∷◌, ◌++◌, length, take, drop, refl, sym, ap, ◌∙◌, subst, arith, mul_assoc}
use Rattle.std.specs.Int.{w32, to_be_bytes, from_be_bytes}
use Rattle.std.proofs.Math.Nat.{mul-div_cancel}
use Rattle.std.proofs.lemmas.Nat.{pow-add, pow_pos}
use Rattle.rs_octets.specs.Prefixes.{masked, octet_count}

-- the address that the first octets spell, those that are not there being 0
abbrev padded : ℕ → ℕ → ℕ
padded count bits =
    let first = take count (to_be_bytes w32 bits) in
    from_be_bytes w32 (first ++ drop (length first) (0 ∷ 0 ∷ 0 ∷ 0 ∷ []))

-- it has the front of the bits
front_0 : (bits : ℕ) → bits < 4294967296 → padded 0 bits ≡ bits / 2 ^ 32 * 2 ^ 32
front_0 bits fits = omega arith

front_1 : (bits : ℕ) → bits < 4294967296 → padded 1 bits ≡ bits / 2 ^ 24 * 2 ^ 24
front_1 bits fits = omega arith

front_2 : (bits : ℕ) → bits < 4294967296 → padded 2 bits ≡ bits / 2 ^ 16 * 2 ^ 16
front_2 bits fits = omega arith

front_3 : (bits : ℕ) → bits < 4294967296 → padded 3 bits ≡ bits / 2 ^ 8 * 2 ^ 8
front_3 bits fits = omega arith

front_4 : (bits : ℕ) → bits < 4294967296 → padded 4 bits ≡ bits
front_4 bits fits = omega arith

-- bits that end with a + r zeros end with r zeros
fewer_zeros : (bits a r : ℕ) → bits / 2 ^ (a + r) * 2 ^ (a + r) ≡ bits → bits / 2 ^ r * 2 ^ r ≡ bits
fewer_zeros bits a r is =
    let q : ℕ = bits / 2 ^ (a + r) in
    let e : q * 2 ^ a * 2 ^ r ≡ bits = mul_assoc q (2 ^ a) (2 ^ r) ∙ ap (λ p. q * p) (sym (pow-add 2 a r)) ∙ is in
    ap (λ n. n / 2 ^ r * 2 ^ r) (sym e) ∙ ap (λ n. n * 2 ^ r) (mul-div_cancel (q * 2 ^ a) (pow_pos r)) ∙ e

-- the octets that hold the bits of a length hold all that is not 0
front_is_all : (len bits r : ℕ) → len + r ≤ 32 → masked bits len ≡ bits → bits / 2 ^ r * 2 ^ r ≡ bits
front_is_all len bits r h is =
    let P : ℕ → Type 0 = λ n. bits / 2 ^ n * 2 ^ n ≡ bits in
    fewer_zeros bits (32 - len - r) r (subst P (omega arith) is)

padded_back : (len bits count : ℕ) → count ≡ octet_count len → len ≤ 32 → masked bits len ≡ bits → bits < 4294967296 → padded count bits ≡ bits
padded_back len bits zero e h is fits = front_0 bits fits ∙ front_is_all len bits 32 (omega arith) is
padded_back len bits (suc zero) e h is fits = front_1 bits fits ∙ front_is_all len bits 24 (omega arith) is
padded_back len bits (suc (suc zero)) e h is fits = front_2 bits fits ∙ front_is_all len bits 16 (omega arith) is
padded_back len bits (suc (suc (suc zero))) e h is fits = front_3 bits fits ∙ front_is_all len bits 8 (omega arith) is
padded_back len bits (suc (suc (suc (suc zero)))) e h is fits = front_4 bits fits
padded_back len bits (suc (suc (suc (suc (suc count))))) e h is fits = absurd (omega arith)

pub back : (len bits : ℕ) → len ≤ 32 → masked bits len ≡ bits → bits < 4294967296 → masked (padded (octet_count len) bits) len ≡ bits
back len bits h is fits = ap (λ bits. masked bits len) (padded_back len bits (octet_count len) refl h is fits) ∙ is
