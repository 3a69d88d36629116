-- A message that announces prefixes, by the parts in which it is written.
use Rattle.std.proofs.Common.{◌≡◌, ℕ, ◌+◌, ◌≤◌, List, [], ◌++◌, length, refl, ap, arith, length-append}
use Rattle.rs_octets.specs.declared.heads.Kind.TheVariants.{Update}
use Rattle.rs_octets.specs.Headers.{header_octets}
use Rattle.rs_octets.specs.Prefixes.{Prefix}
use Rattle.rs_octets.specs.Writes.{Writes}
use Rattle.rs_octets.proofs.Writing.{writes_then}
use Rattle.rs_packer.specs.Packed.{prefixes_octets, update, update_body}
use Rattle.rs_packer.specs.Parts.{announced_front}

pub update_length : (a : List ℕ) (ps : List Prefix) → length (update [] a ps) ≡ 23 + length a + length (prefixes_octets ps)
update_length a ps = omega (arith, length-append a (prefixes_octets ps))

pub update_parts : (a : List ℕ) (ps : List Prefix) (total : ℕ) → total ≡ 23 + length a + length (prefixes_octets ps) → update [] a ps ≡ announced_front total (length a) ++ a ++ prefixes_octets ps
update_parts a ps total e =
    let body : List ℕ = update_body [] a ps in
    let same : 19 + length body ≡ total = omega (arith, e, length-append a (prefixes_octets ps)) in
    ap (λ t. header_octets t Update ++ body) same

-- three writes make the message
pub announced_written : (total next last : ℕ) (a : List ℕ) (ps : List Prefix) (old one two new : List ℕ)
    → total ≡ 23 + length a + length (prefixes_octets ps) → total ≤ length old
    → next ≡ 23 → last ≡ next + length a
    → Writes 0 (announced_front total (length a)) old one → Writes next a one two → Writes last (prefixes_octets ps) two new
    → Writes 0 (update [] a ps) old new
announced_written total next last a ps old one two new total_is room next_is last_is w1 w2 w3 =
    let front : List ℕ = announced_front total (length a) in
    let w12 = writes_then 0 next front a (front ++ a) old one two refl next_is (omega (arith, length-append front a)) w1 w2 in
    let parts = update_parts a ps total total_is in
    writes_then 0 last (front ++ a) (prefixes_octets ps) (update [] a ps) old two new parts (omega (arith, length-append front a)) (omega (arith, update_length a ps)) w12 w3
