-- Steps of the reader: what it has from the triples so far, and what it answers for those that are left.
use Rattle.std.specs.Prelude.{ℕ, ◌==◌, ◌+◌, ◌++◌, [], ◌∷◌, Bool, ◌||◌, if◌then◌else◌, List, None, false, Result}
use Rattle.std.specs.Option.{option_or}
use Rattle.std.specs.List.{flat_map}
use Rattle.rs_open.specs.declared.open.Open.{Open}
use Rattle.rs_open.specs.declared.open.OpenFault.{OpenFault}
use Rattle.rs_open.specs.declared.open.OpenFault.TheVariants.{Hold, Identifier}
use Rattle.rs_open.specs.declared.triples.Triple as seen
use Rattle.rs_open.specs.declared.reading.Capabilities.{Capabilities}
use Rattle.rs_open.specs.declared.writing.ServerOpen.{ServerOpen}
use Rattle.rs_open.specs.Triples.{Triple, Row, triple_octets, row_of, with_first}
use Rattle.rs_octets.specs.declared.heads.Kind.TheVariants as kinds
use Rattle.rs_octets.specs.Headers.{header_octets}
use Rattle.rs_open.specs.Writing.{my_as_said}
use Rattle.byteorder.specs.Endian.{big_bytes}
use Rattle.rs_octets.specs.HoldTimes.{is_refused_hold}
use Rattle.rs_open.specs.Opens.{four_of, long_of, my_as_field, hold_field, identifier_field, capabilities_in, capability_faults, parameter_faults, row_faults, when, unless}

-- a triple in the octets that are read
abbrev pub triple_in : seen.Triple → Triple
triple_in t = record { kind = t.kind; value = t.value.now }

abbrev pub row_from : seen.Triple → List ℕ → Row
row_from t octets = with_first (triple_in t) (row_of octets)

-- what is known once these capabilities have been read too
abbrev pub with_capabilities : Capabilities → List Triple → Capabilities
with_capabilities had capabilities = record {
  four = option_or had.four (four_of capabilities);
  long = had.long || long_of capabilities;
}

-- before any was read
abbrev pub no_capabilities : Capabilities
no_capabilities = record { four = None; long = false }

-- what is answered for one capability
abbrev pub capability_answer : Capabilities → Triple → Result Capabilities OpenFault
capability_answer had c = unless (capability_faults c) (with_capabilities had (c ∷ []))

-- what is answered at the end of a row of capabilities
abbrev pub capabilities_answer : Capabilities → Row → Result Capabilities OpenFault
capabilities_answer had row = unless (row_faults capability_faults row) (with_capabilities had row.triples)

-- what is answered at the end of a row of parameters
abbrev pub parameters_answer : Capabilities → Row → Result Capabilities OpenFault
parameters_answer had row =
    unless (row_faults parameter_faults row) (with_capabilities had (flat_map capabilities_in row.triples))

-- what is answered for the other fields of a body, once its capabilities are known
abbrev pub open_answer : Capabilities → List ℕ → Result Open OpenFault
open_answer found body =
    let my_as = my_as_field body in
    unless (when (is_refused_hold (hold_field body)) (Hold my_as found.four) ++ when (identifier_field body == 0) (Identifier my_as found.four))
    (record { my_as = my_as; four = found.four; hold = hold_field body; identifier = identifier_field body; long = found.long })

-- ---- steps of the writer

-- an OPEN up to its capabilities, which have so many octets
abbrev pub open_front : ServerOpen → ℕ → List ℕ
open_front said size =
    header_octets (31 + size) kinds.Open
    ++ 4 ∷ []
    ++ big_bytes 2 (my_as_said said.server_as)
    ++ big_bytes 2 said.hold
    ++ big_bytes 4 said.identifier
    ++ (2 + size) ∷ 2 ∷ size ∷ []

-- a capability that stands only where it is wanted
abbrev pub capability_octets : Bool → ℕ → List ℕ → List ℕ
capability_octets wanted code value = if wanted then triple_octets (record { kind = code; value = value }) else []
