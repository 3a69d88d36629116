-- A message of ours is one whole message of its type.
use Rattle.std.proofs.Common.{◌≡◌, ℕ, ◌+◌, ◌≤◌, Bool, true, false, List, [], ◌∷◌, length, take, refl, arith}
use Rattle.rs_octets.specs.declared.heads.Allowed.{Allowed}
use Rattle.rs_octets.specs.declared.heads.Kind.TheVariants as kinds
use Rattle.rs_octets.specs.Messages.{IsMessageOf, body_of}
use Rattle.rs_octets.proofs.GoodHeaders.{longest_least, written_is_message}
use Rattle.rs_open.specs.declared.short.Short.{Short}
use Rattle.rs_open.specs.declared.short.Short.TheVariants as shorts
use Rattle.rs_open.specs.declared.writing.ServerOpen.{ServerOpen}
use Rattle.rs_open.specs.Laws.{Fits, kind_of}
use Rattle.rs_open.specs.Walk.{capability_octets}
use Rattle.rs_open.specs.Writing.{multiprotocol, body_said, server_open, short_octets}
use Rattle.rs_open.proofs.Written.{open_size}

-- ---- an OPEN of ours has 37 to 47 octets

capability_most : (wanted : Bool) (code : ℕ) (value : List ℕ) → length (capability_octets wanted code value) ≤ 2 + length value
capability_most true code value = omega arith
capability_most false code value = omega arith

open_most : (said : ServerOpen) → length (server_open said) ≤ 47
open_most said =
    omega (arith, open_size said, capability_most said.multiprotocol 1 multiprotocol.value, capability_most said.extended 6 [], capability_most said.refresh 2 [])

open_least : (said : ServerOpen) → 37 ≤ length (server_open said)
open_least said = omega (arith, open_size said)

-- ---- a NOTIFICATION with 129 octets of data at most has 150 at most

pub note_fits : (allowed : Allowed) (code sub : ℕ) (extra : List ℕ) (count : ℕ) → length (take count extra) ≤ 129 → Fits allowed (shorts.Note code sub extra count)
note_fits allowed code sub extra count h = let long = longest_least allowed.long in omega (arith, h)

-- ---- messages

pub short_is_message : (allowed : Allowed) (said : ServerOpen) (short : Short) → Fits allowed short → IsMessageOf allowed (kind_of short) (short_octets said short)
short_is_message allowed said shorts.Open is =
    let most = open_most said in
    let least = open_least said in
    written_is_message allowed kinds.Open (body_said said) refl (omega (arith, least)) (omega (arith, most))
short_is_message allowed said shorts.Keepalive is = written_is_message allowed kinds.Keepalive [] refl (omega arith) (omega arith)
short_is_message allowed said (shorts.Note code sub extra count) is =
    written_is_message allowed kinds.Note (code ∷ sub ∷ take count extra) refl (omega arith) (omega (arith, is))

pub body_stands_behind : (said : ServerOpen) → body_of (server_open said) ≡ body_said said
body_stands_behind said = refl
