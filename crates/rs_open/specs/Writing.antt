-- The octets of the messages that a session says.
use Rattle.std.specs.Prelude.{ℕ, List, [], ◌∷◌, ◌++◌, length, take, nat_lt, if◌then◌else◌}
use Rattle.std.specs.List.{flat_map}
use Rattle.byteorder.specs.Endian.{big_bytes}
use Rattle.rs_octets.specs.declared.heads.Kind.TheVariants as kinds
use Rattle.rs_octets.specs.Messages.{message_octets}
use Rattle.rs_octets.specs.Numbers.{as_trans}
use Rattle.rs_open.specs.declared.short.Short.{Short}
use Rattle.rs_open.specs.declared.short.Short.TheVariants as shorts
use Rattle.rs_open.specs.declared.writing.ServerOpen.{ServerOpen}
use Rattle.rs_open.specs.Triples.{Triple, triple_octets}

-- ---- KEEPALIVE (RFC 4271, 4.4) and NOTIFICATION (RFC 4271, 4.5)

abbrev pub keepalive : List ℕ
keepalive = message_octets kinds.Keepalive []

abbrev pub notification : ℕ → ℕ → List ℕ → List ℕ
notification code sub data_octets = message_octets kinds.Note (code ∷ sub ∷ data_octets)

-- ---- the server's OPEN (RFC 4271, 4.2)

-- IPv4 unicast: address family 1, a reserved octet, subsequent address family 1 (RFC 4760, 8)
abbrev pub multiprotocol : Triple
multiprotocol = record { kind = 1; value = 0 ∷ 1 ∷ 0 ∷ 1 ∷ [] }

-- RFC 6793, 3
abbrev pub four_octet_as : ℕ → Triple
four_octet_as number = record { kind = 65; value = big_bytes 4 number }

-- RFC 8654, 3
abbrev pub extended_message : Triple
extended_message = record { kind = 6; value = [] }

-- RFC 2918, 2
abbrev pub route_refresh : Triple
route_refresh = record { kind = 2; value = [] }

abbrev pub capabilities_said : ServerOpen → List Triple
capabilities_said said =
    (if said.multiprotocol then multiprotocol ∷ [] else [])
    ++ four_octet_as said.server_as ∷ []
    ++ (if said.extended then extended_message ∷ [] else [])
    ++ (if said.refresh then route_refresh ∷ [] else [])

-- the one parameter, which holds them all (RFC 5492, 4)
abbrev pub parameter_said : ServerOpen → Triple
parameter_said said = record { kind = 2; value = flat_map triple_octets (capabilities_said said) }

-- AS_TRANS stands for a number that two octets can't hold (RFC 6793, 3)
abbrev pub my_as_said : ℕ → ℕ
my_as_said number = if nat_lt 65535 number then as_trans else number

abbrev pub body_said : ServerOpen → List ℕ
body_said said =
    4 ∷ []
    ++ big_bytes 2 (my_as_said said.server_as)
    ++ big_bytes 2 said.hold
    ++ big_bytes 4 said.identifier
    ++ length (triple_octets (parameter_said said)) ∷ triple_octets (parameter_said said)

abbrev pub server_open : ServerOpen → List ℕ
server_open said = message_octets kinds.Open (body_said said)

-- ---- any of them

abbrev pub short_octets : ServerOpen → Short → List ℕ
short_octets said shorts.Open = server_open said
short_octets said shorts.Keepalive = keepalive
short_octets said (shorts.Note code sub extra count) = notification code sub (take count extra)
