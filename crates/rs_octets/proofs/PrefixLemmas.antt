-- The octets of prefixes, and the prefix with which a field begins.
use Rattle.std.proofs.Common.{◌≡◌, ◌∙◌, ◌+◌, ◌≤◌, ℕ, zero, suc, false, cond, List, [], ◌∷◌, ◌++◌, length, take, drop, refl, sym, ap, arith, nat_lt}
use Rattle.std.specs.Prelude.{Ok, Err}
use Rattle.std.specs.Int.{w32, to_be_bytes, from_be_bytes}
use Rattle.std.proofs.lemmas.Bool.{le-ltb}
use Rattle.std.proofs.lemmas.List.{length-take-le}
use Rattle.rs_octets.specs.declared.prefix.FieldFault.TheVariants.{TooLong, Cut}
use Rattle.rs_octets.specs.Prefixes.{Prefix, masked, octet_count}
use Rattle.rs_octets.specs.PrefixFields.{prefix_octets, prefix_at, prefixes_behind, prefixes_of}

pub prefix_length : (p : Prefix) → p.len ≤ 32 → length (prefix_octets p) ≡ 1 + octet_count p.len
prefix_length p h =
    let taken : length (take (octet_count p.len) (to_be_bytes w32 p.bits)) ≡ octet_count p.len = length-take-le (octet_count p.len) (to_be_bytes w32 p.bits) (omega arith) in
    omega arith

-- what a field holds behind octets is what those that are left hold
behind : (n : ℕ) (octets : List ℕ) → prefixes_behind n octets ≡ prefixes_of (drop n octets)
behind zero octets = refl
behind (suc n) [] = refl
behind (suc n) (octet ∷ octets) = behind n octets

-- a field that begins with a prefix holds it, and what the octets behind it hold
pub first_prefix : (len size address : ℕ) (field octets front rest : List ℕ) → field ≡ len ∷ octets → len ≤ 32 → size ≡ octet_count len → size ≤ length octets
    → front ≡ take size octets → rest ≡ drop size octets → address ≡ from_be_bytes w32 (front ++ drop (length front) (0 ∷ 0 ∷ 0 ∷ 0 ∷ []))
    → prefixes_of field ≡ Ok (record { bits = masked address len; len = len }) ∷ prefixes_of rest
first_prefix len size address field octets front rest field_is short size_is here front_is rest_is address_is =
    let cut : nat_lt (length octets) (octet_count len) ≡ false = le-ltb (length octets) (octet_count len) (omega arith) in
    let is : take (octet_count len) octets ≡ front = ap (λ n. take n octets) (sym size_is) ∙ sym front_is in
    let others : prefixes_behind (octet_count len) octets ≡ prefixes_of rest =
    behind (octet_count len) octets ∙ ap (λ n. prefixes_of (drop n octets)) (sym size_is) ∙ ap prefixes_of (sym rest_is) in
    let made : prefix_at len front ≡ record { bits = masked address len; len = len } = λ i. record { bits = masked (sym address_is i) len; len = len } in
    ap prefixes_of field_is
    ∙ (λ i. cond (le-ltb 32 len short i) (Err TooLong ∷ []) (cond (cut i) (Err Cut ∷ []) (Ok (prefix_at len (is i)) ∷ others i)))
    ∙ ap (λ p. Ok p ∷ prefixes_of rest) made
