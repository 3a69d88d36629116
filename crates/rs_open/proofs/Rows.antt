-- What the definitions answer, by computation: bodies of OPENs as read, and our messages as written.
use Rattle.std.specs.Prelude.{◌≡◌, ℕ, ◌-◌, ◌&&◌, List, [], ◌∷◌, ◌++◌, length, slice_index, nat_le, if◌then◌else◌, refl, codes, replicate, Bool, true, false, Some, None, Ok, Err, IsUtf8}
use Rattle.std.proofs.Common.{zero, suc, ◌<◌, ap, ◌∙◌, arith}
use Rattle.std.proofs.lemmas.Str.{IsUtf8-from_ascii}
use Rattle.std.specs.Str.{is_utf8}
use Rattle.rs_octets.proofs.Rows.{hex}
use Rattle.rs_open.specs.declared.open.OpenFault.TheVariants.{Version, Malformed, Parameter, Hold, Identifier}
use Rattle.rs_open.specs.declared.short.Short.TheVariants.{Keepalive}
use Rattle.rs_open.specs.declared.shutdown.ShutdownText.{ShutdownText}
use Rattle.rs_open.specs.declared.writing.ServerOpen.{ServerOpen}
use Rattle.rs_open.specs.Notes.{note, note_1, note_2, shutdown_text, shutdown_note}
use Rattle.rs_open.specs.Opens.{open_of}
use Rattle.rs_open.specs.Refreshes.{family_of}
use Rattle.rs_open.specs.Writing.{server_open, short_octets}
use Rattle.rs_open.proofs.Texts.{utf8_tested}

four_octets : open_of (hex (codes "04 fbf0 005a c000020b 08 0206 4104 0000fbf0"))
    ≡ Ok (record { my_as = 64496; four = Some 64496; hold = 90; identifier = 0xc000020b; long = false })
four_octets = refl

as_trans : open_of (hex (codes "04 5ba0 005a c000020b 08 0206 4104 fa56ea00"))
    ≡ Ok (record { my_as = 23456; four = Some 4200000000; hold = 90; identifier = 0xc000020b; long = false })
as_trans = refl

no_capability : open_of (hex (codes "04 fbf0 005a c000020b 02 0200"))
    ≡ Ok (record { my_as = 64496; four = None; hold = 90; identifier = 0xc000020b; long = false })
no_capability = refl

no_parameter : open_of (hex (codes "04 fbf0 005a c000020b 00"))
    ≡ Ok (record { my_as = 64496; four = None; hold = 90; identifier = 0xc000020b; long = false })
no_parameter = refl

version_3 : open_of (hex (codes "03 fbf0 005a c000020b 00")) ≡ Err Version
version_3 = refl

-- parameters behind a length of two octets (RFC 9072, 2)
extended_parameters : open_of (hex (codes "04 fbf0 005a c000020b ff ff 0009 02 0006 4104 0000fbf0")) ≡ Err Malformed
extended_parameters = refl

short_length : open_of (hex (codes "04 fbf0 005a c000020b 07 0206 4104 0000fbf0")) ≡ Err Malformed
short_length = refl

long_length : open_of (hex (codes "04 fbf0 005a c000020b 09 0206 4104 0000fbf0")) ≡ Err Malformed
long_length = refl

two_octets : open_of (hex (codes "04 fbf0 005a c000020b 06 0204 4102 fbf0")) ≡ Err Malformed
two_octets = refl

other_parameter : open_of (hex (codes "04 fbf0 005a c000020b 02 0100")) ≡ Err Parameter
other_parameter = refl

hold_2 : open_of (hex (codes "04 fbf0 0002 00000000 00")) ≡ Err (Hold 64496 None)
hold_2 = refl

hold_2_four : open_of (hex (codes "04 fbf0 0002 c000020b 08 0206 4104 0000fbf0")) ≡ Err (Hold 64496 (Some 64496))
hold_2_four = refl

hold_3 : open_of (hex (codes "04 fbf0 0003 c000020b 00"))
    ≡ Ok (record { my_as = 64496; four = None; hold = 3; identifier = 0xc000020b; long = false })
hold_3 = refl

hold_0 : open_of (hex (codes "04 fbf0 0000 c000020b 08 0206 4104 0000fbf0"))
    ≡ Ok (record { my_as = 64496; four = Some 64496; hold = 0; identifier = 0xc000020b; long = false })
hold_0 = refl

identifier_0 : open_of (hex (codes "04 fbf0 005a 00000000 00")) ≡ Err (Identifier 64496 None)
identifier_0 = refl

-- the parameters come before the Hold Time
parameter_before_hold : open_of (hex (codes "04 fbf0 0002 c000020b 02 0100")) ≡ Err Parameter
parameter_before_hold = refl

-- from left to right
parameter_then_cut : open_of (hex (codes "04 fbf0 005a c000020b 05 0100 0206 41")) ≡ Err Parameter
parameter_then_cut = refl

bad_capability_then_parameter : open_of (hex (codes "04 fbf0 005a c000020b 08 0204 4102 fbf0 0100")) ≡ Err Malformed
bad_capability_then_parameter = refl

-- a parameter of another type that runs over its end
other_cut : open_of (hex (codes "04 fbf0 005a c000020b 02 0101")) ≡ Err Malformed
other_cut = refl

-- a parameter's type alone
type_alone : open_of (hex (codes "04 fbf0 005a c000020b 01 02")) ≡ Err Malformed
type_alone = refl

-- a capability that runs over its parameter, though not over the message
capability_cut : open_of (hex (codes "04 fbf0 005a c000020b 0a 0202 4104 0204 0000fbf0")) ≡ Err Malformed
capability_cut = refl

-- of two the first counts
first_four : open_of (hex (codes "04 fbf0 005a c000020b 0e 020c 4104 0000fbf0 4104 fa56ea00"))
    ≡ Ok (record { my_as = 64496; four = Some 64496; hold = 90; identifier = 0xc000020b; long = false })
first_four = refl

-- also where it stands in a parameter of its own, but a malformed second one is a fault
bad_second_four : open_of (hex (codes "04 fbf0 005a c000020b 0e 0206 4104 0000fbf0 0204 4102 fbf0")) ≡ Err Malformed
bad_second_four = refl

extended : open_of (hex (codes "04 fbf2 005a c000020d 04 0202 0600"))
    ≡ Ok (record { my_as = 64498; four = None; hold = 90; identifier = 0xc000020d; long = true })
extended = refl

-- capability 6 with a value is passed over, and the good one beside it counts
extended_with_value : open_of (hex (codes "04 fbf2 005a c000020d 05 0203 060100"))
    ≡ Ok (record { my_as = 64498; four = None; hold = 90; identifier = 0xc000020d; long = false })
extended_with_value = refl

extended_beside : open_of (hex (codes "04 fbf2 005a c000020d 07 0205 060100 0600"))
    ≡ Ok (record { my_as = 64498; four = None; hold = 90; identifier = 0xc000020d; long = true })
extended_beside = refl

-- an OPEN as BIRD sends it: one parameter with capabilities 1, 2, 6, 64, 65, 69, 70 and 71
of_bird : open_of (hex (codes "04 fbf0 00f0 c000020b 2b 0229 0104 0001 0001 0200 0600 4006 0078 0001 01 00 4104 0000fbf0 4504 0001 01 01 4600 4707 0001 01 00 000e10"))
    ≡ Ok (record { my_as = 64496; four = Some 64496; hold = 240; identifier = 0xc000020b; long = true })
of_bird = refl

-- as FRR sends it: a parameter for each of 1, 128, 2, 70, 65, 6, 69, 73 and 64
of_frr : open_of (hex (codes "04 5ba0 00b4 c000020b 37 0206 0104 0001 0001 0202 8000 0202 0200 0202 4600 0206 4104 fa56ea00 0202 0600 0206 4504 0001 01 01 0207 4905 03 727472 00 0204 4002 8078"))
    ≡ Ok (record { my_as = 23456; four = Some 4200000000; hold = 180; identifier = 0xc000020b; long = true })
of_frr = refl

-- ---- messages as they are written

abbrev m : List ℕ → List ℕ
m text = replicate 16 255 ++ hex text

abbrev said : ℕ → Bool → Bool → Bool → ServerOpen
said number multiprotocol extended refresh =
    record { server_as = number; hold = 90; identifier = 0xc0000201; multiprotocol = multiprotocol; extended = extended; refresh = refresh }

open_alone : server_open (said 64500 false false false) ≡ m (codes "0025 01 04 fbf4 005a c0000201 08 0206 4104 0000fbf4")
open_alone = refl

open_extended : server_open (said 64500 false true false) ≡ m (codes "0027 01 04 fbf4 005a c0000201 0a 0208 4104 0000fbf4 0600")
open_extended = refl

open_refresh : server_open (said 64500 false false true) ≡ m (codes "0027 01 04 fbf4 005a c0000201 0a 0208 4104 0000fbf4 0200")
open_refresh = refl

open_multiprotocol : server_open (said 64500 true false false) ≡ m (codes "002b 01 04 fbf4 005a c0000201 0e 020c 0104 0001 00 01 4104 0000fbf4")
open_multiprotocol = refl

open_of_all : server_open (said 4200000000 true true true) ≡ m (codes "002f 01 04 5ba0 005a c0000201 12 0210 0104 0001 00 01 4104 fa56ea00 0600 0200")
open_of_all = refl

a_keepalive : short_octets (said 64500 false false false) Keepalive ≡ m (codes "0013 04")
a_keepalive = refl

bad_version : short_octets (said 64500 false false false) (note_2 2 1 0 4) ≡ m (codes "0017 03 02 01 0004")
bad_version = refl

bad_type : short_octets (said 64500 false false false) (note_1 1 3 9) ≡ m (codes "0016 03 01 03 09")
bad_type = refl

hold_timer : short_octets (said 64500 false false false) (note 4 0) ≡ m (codes "0015 03 04 00")
hold_timer = refl

-- ---- an end that the operator commands

abbrev text_of : List ℕ → ShutdownText
text_of octets = record { octets = octets ++ replicate (128 - length octets) 0; count = length octets }

shutdown_alone : short_octets (said 64500 false false false) (shutdown_note (text_of [])) ≡ m (codes "0015 03 06 02")
shutdown_alone = refl

shutdown_with_text : short_octets (said 64500 false false false) (shutdown_note (text_of (hex (codes "627965")))) ≡ m (codes "0019 03 06 02 03 627965")
shutdown_with_text = refl

longest_shutdown : short_octets (said 64500 false false false) (shutdown_note (text_of (replicate 128 0x61)))
    ≡ m (codes "0096 03 06 02 80") ++ replicate 128 0x61
longest_shutdown = refl

-- what is not too long, and is UTF-8
taken : (octets : List ℕ) → nat_le (length octets) 128 ≡ true → IsUtf8 octets → shutdown_text octets ≡ Some (text_of octets)
taken octets few is =
    ap (λ b. if b && is_utf8 octets then Some (text_of octets) else None) few
    ∙ ap (λ b. if b then Some (text_of octets) else None) (utf8_tested octets is)

no_text : shutdown_text [] ≡ Some (text_of [])
no_text = taken [] refl ([], (refl, refl))

is_ascii : (i : ℕ) → slice_index (0x62 ∷ 0x79 ∷ 0x65 ∷ []) i < 128
is_ascii zero = omega arith
is_ascii (suc zero) = omega arith
is_ascii (suc (suc zero)) = omega arith
is_ascii (suc (suc (suc i))) = omega arith

a_text : shutdown_text (hex (codes "627965")) ≡ Some (text_of (0x62 ∷ 0x79 ∷ 0x65 ∷ []))
a_text = taken (0x62 ∷ 0x79 ∷ 0x65 ∷ []) refl (IsUtf8-from_ascii _ is_ascii)

text_of_129 : shutdown_text (replicate 129 0x61) ≡ None
text_of_129 = refl

-- ---- ROUTE-REFRESH

ipv4_unicast : family_of (hex (codes "0001 00 01")) ≡ record { afi = 1; safi = 1 }
ipv4_unicast = refl

ipv6_vpn : family_of (hex (codes "0002 ff 80")) ≡ record { afi = 2; safi = 128 }
ipv6_vpn = refl
