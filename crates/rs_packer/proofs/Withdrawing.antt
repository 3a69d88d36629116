-- A message that withdraws prefixes, by the parts in which it is written.
use Rattle.std.proofs.Common.{◌≡◌, ℕ, ◌+◌, ◌≤◌, List, [], ◌∷◌, ◌++◌, length, refl, ap, ◌∙◌, arith, length-append}
use Rattle.rs_octets.specs.declared.heads.Kind.TheVariants.{Update}
use Rattle.rs_octets.specs.Headers.{header_octets}
use Rattle.std.proofs.lemmas.List.{append-nil}
use Rattle.rs_octets.specs.Prefixes.{Prefix}
use Rattle.rs_octets.specs.Writes.{Writes}
use Rattle.rs_octets.proofs.Writing.{writes_then}
use Rattle.rs_packer.specs.Packed.{prefixes_octets, withdrawal, update_body}
use Rattle.rs_packer.specs.Parts.{withdrawn_front}

pub withdrawal_length : (ps : List Prefix) → length (withdrawal ps) ≡ 23 + length (prefixes_octets ps)
withdrawal_length ps =
    let body = prefixes_octets ps ++ (0 ∷ 0 ∷ []) in
    let none = ap length (append-nil body) in
    omega (arith, length-append (prefixes_octets ps) (0 ∷ 0 ∷ []), none)

pub withdrawal_parts : (ps : List Prefix) (total : ℕ) → total ≡ 23 + length (prefixes_octets ps) → withdrawal ps ≡ withdrawn_front total (length (prefixes_octets ps)) ++ prefixes_octets ps ++ (0 ∷ 0 ∷ [])
withdrawal_parts ps total e =
    let body : List ℕ = update_body ps [] [] in
    let none = append-nil (prefixes_octets ps ++ (0 ∷ 0 ∷ [])) in
    let size = ap length none in
    let same : 19 + length body ≡ total = omega (arith, e, size, length-append (prefixes_octets ps) (0 ∷ 0 ∷ [])) in
    ap (λ t. header_octets t Update ++ body) same
    ∙ ap (λ xs. withdrawn_front total (length (prefixes_octets ps)) ++ xs) none

pub withdrawal_written : (total next last : ℕ) (ps : List Prefix) (old one two new : List ℕ)
    → total ≡ 23 + length (prefixes_octets ps) → total ≤ length old
    → next ≡ 21 → last ≡ next + length (prefixes_octets ps)
    → Writes 0 (withdrawn_front total (length (prefixes_octets ps))) old one → Writes next (prefixes_octets ps) one two → Writes last (0 ∷ 0 ∷ []) two new
    → Writes 0 (withdrawal ps) old new
withdrawal_written total next last ps old one two new total_is room next_is last_is w1 w2 w3 =
    let front : List ℕ = withdrawn_front total (length (prefixes_octets ps)) in
    let w12 = writes_then 0 next front (prefixes_octets ps) (front ++ prefixes_octets ps) old one two refl next_is (omega (arith, length-append front (prefixes_octets ps))) w1 w2 in
    let parts = withdrawal_parts ps total total_is in
    writes_then 0 last (front ++ prefixes_octets ps) (0 ∷ 0 ∷ []) (withdrawal ps) old two new parts (omega (arith, length-append front (prefixes_octets ps))) (omega (arith, withdrawal_length ps)) w12 w3
