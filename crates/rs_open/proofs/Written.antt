-- Octets behind those that are written already.
use Rattle.std.proofs.Common.{◌≡◌, ℕ, ◌+◌, ◌≤◌, Bool, true, false, List, [], ◌∷◌, ◌++◌, length, refl, sym, ap, subst, arith, length-append}
use Rattle.rs_octets.specs.Writes.{Writes}
use Rattle.rs_octets.proofs.Writing.{written}
use Rattle.std.specs.List.{flat_map}
use Rattle.byteorder.specs.Endian.{big_bytes}
use Rattle.rs_open.specs.declared.writing.ServerOpen.{ServerOpen}
use Rattle.rs_open.specs.Triples.{triple_octets}
use Rattle.rs_octets.specs.declared.heads.Kind.TheVariants as kinds
use Rattle.rs_octets.specs.Headers.{header_octets}
use Rattle.rs_open.specs.Writing.{notification, capabilities_said, multiprotocol, server_open}
use Rattle.rs_open.specs.Walk.{open_front, capability_octets}

-- a header, the code and the subcode, and the data
pub note_written : (size code sub end next : ℕ) (data_octets more old one two new : List ℕ)
    → size ≡ 21 + length data_octets → more ≡ data_octets → 21 + length data_octets ≤ length old → end ≡ 19 → next ≡ end + 2
    → Writes 0 (header_octets size kinds.Note) old one → Writes end (code ∷ sub ∷ []) one two → Writes next more two new
    → Writes 0 (notification code sub data_octets) old new
note_written size code sub end next data_octets more old one two new sizes is room a b first second third =
    let total : 19 + length (code ∷ sub ∷ data_octets) ≡ size = omega (arith, sizes) in
    let whole : header_octets size kinds.Note ++ (code ∷ sub ∷ []) ++ data_octets ≡ notification code sub data_octets = ap (λ n. header_octets n kinds.Note ++ (code ∷ sub ∷ data_octets)) (sym total) in
    let P : List ℕ → Type 0 = λ xs. Writes 0 xs old new in
    subst P whole
    (written (header_octets size kinds.Note ++ (code ∷ sub ∷ [])) more data_octets old two new next is (omega arith) (omega arith)
    (written (header_octets size kinds.Note) (code ∷ sub ∷ []) (code ∷ sub ∷ []) old one two end refl a (omega arith) first second) third)

-- ---- the server's OPEN

abbrev pub said_with : Bool → Bool → Bool → ℕ → ℕ → ℕ → ServerOpen
said_with multiprotocol extended refresh number hold identifier =
    record { server_as = number; hold = hold; identifier = identifier; multiprotocol = multiprotocol; extended = extended; refresh = refresh }

-- the front, and the four places of capabilities
abbrev open_parts : ServerOpen → List ℕ
open_parts said =
    open_front said (length (flat_map triple_octets (capabilities_said said)))
    ++ capability_octets said.multiprotocol 1 multiprotocol.value
    ++ capability_octets true 65 (big_bytes 4 said.server_as)
    ++ capability_octets said.extended 6 []
    ++ capability_octets said.refresh 2 []

parts_by : (a b c : Bool) (number hold identifier : ℕ) → open_parts (said_with a b c number hold identifier) ≡ server_open (said_with a b c number hold identifier)
parts_by true true true number hold identifier = refl
parts_by true true false number hold identifier = refl
parts_by true false true number hold identifier = refl
parts_by true false false number hold identifier = refl
parts_by false true true number hold identifier = refl
parts_by false true false number hold identifier = refl
parts_by false false true number hold identifier = refl
parts_by false false false number hold identifier = refl

pub open_is_parts : (said : ServerOpen) → open_parts said ≡ server_open said
open_is_parts said = parts_by said.multiprotocol said.extended said.refresh said.server_as said.hold said.identifier

size_by : (a b c : Bool) (number hold identifier : ℕ) →
    let said = said_with a b c number hold identifier in
    length (server_open said) ≡ 37 + length (capability_octets a 1 multiprotocol.value) + length (capability_octets b 6 []) + length (capability_octets c 2 [])
size_by true true true number hold identifier = refl
size_by true true false number hold identifier = refl
size_by true false true number hold identifier = refl
size_by true false false number hold identifier = refl
size_by false true true number hold identifier = refl
size_by false true false number hold identifier = refl
size_by false false true number hold identifier = refl
size_by false false false number hold identifier = refl

pub open_size : (said : ServerOpen) → length (server_open said)
    ≡ 37 + length (capability_octets said.multiprotocol 1 multiprotocol.value) + length (capability_octets said.extended 6 []) + length (capability_octets said.refresh 2 [])
open_size said = size_by said.multiprotocol said.extended said.refresh said.server_as said.hold said.identifier

-- the parts written one after the other
pub open_written : (said : ServerOpen) (size at_mp at_four at_long at_refresh : ℕ) (number old one two three four new : List ℕ)
    → length (server_open said) ≤ length old
    → size ≡ length (flat_map triple_octets (capabilities_said said)) → number ≡ big_bytes 4 said.server_as
    → at_mp ≡ 31
    → at_four ≡ at_mp + length (capability_octets said.multiprotocol 1 multiprotocol.value)
    → at_long ≡ at_four + length (capability_octets true 65 number)
    → at_refresh ≡ at_long + length (capability_octets said.extended 6 [])
    → Writes 0 (open_front said size) old one
    → Writes at_mp (capability_octets said.multiprotocol 1 multiprotocol.value) one two
    → Writes at_four (capability_octets true 65 number) two three
    → Writes at_long (capability_octets said.extended 6 []) three four
    → Writes at_refresh (capability_octets said.refresh 2 []) four new
    → Writes 0 (server_open said) old new
open_written said size at_mp at_four at_long at_refresh number old one two three four new room sizes numbers a b d e w1 w2 w3 w4 w5 =
    let front : List ℕ = open_front said (length (flat_map triple_octets (capabilities_said said))) in
    let mp : List ℕ = capability_octets said.multiprotocol 1 multiprotocol.value in
    let as_number : List ℕ = capability_octets true 65 (big_bytes 4 said.server_as) in
    let long : List ℕ = capability_octets said.extended 6 [] in
    let refresh : List ℕ = capability_octets said.refresh 2 [] in
    let whole = open_size said in
    let four_octets : length number ≡ 4 = ap length numbers in
    let P : List ℕ → Type 0 = λ xs. Writes 0 xs old new in
    let Q : ℕ → Type 0 = λ n. Writes 0 (open_front said n) old one in
    subst P (open_is_parts said)
    (written (front ++ mp ++ as_number ++ long) refresh refresh old four new at_refresh refl
    (omega (arith, length-append (mp ++ as_number) long, length-append mp as_number)) (omega (arith, length-append (mp ++ as_number) long, length-append mp as_number))
    (written (front ++ mp ++ as_number) long long old three four at_long refl
    (omega (arith, length-append mp as_number)) (omega (arith, length-append mp as_number))
    (written (front ++ mp) (capability_octets true 65 number) as_number old two three at_four (ap (capability_octets true 65) numbers)
    (omega arith) (omega arith)
    (written front mp mp old one two at_mp refl (omega arith) (omega arith) (subst Q sizes w1) w2) w3) w4) w5)
