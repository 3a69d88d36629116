-- What the body of an OPEN says, and what is wrong with it (RFC 4271, 4.2 and 6.2). The body is the
-- version (1 octet), My Autonomous System (2), the Hold Time (2), the BGP Identifier (4), the length
-- of the parameters (1), and the parameters.
use Rattle.std.specs.Prelude.{ℕ, ◌==◌, Bool, ◌&&◌, not, List, [], ◌∷◌, ◌++◌, length, drop, slice_index, Option, option_map, Result, Ok, Err, if◌then◌else◌}
use Rattle.std.specs.List.{flat_map, find, list_any}
use Rattle.byteorder.specs.Endian.{big_number}
use Rattle.rs_octets.specs.HoldTimes.{is_refused_hold}
use Rattle.rs_open.specs.declared.open.Open.{Open}
use Rattle.rs_open.specs.declared.open.OpenFault.{OpenFault}
use Rattle.rs_open.specs.declared.open.OpenFault.TheVariants.{Version, Malformed, Parameter, Hold, Identifier}
use Rattle.rs_open.specs.Triples.{Triple, Row, row_of}

-- ---- the fields

abbrev pub version_field : List ℕ → ℕ
version_field body = slice_index body 0

abbrev pub my_as_field : List ℕ → ℕ
my_as_field body = big_number 2 (drop 1 body)

abbrev pub hold_field : List ℕ → ℕ
hold_field body = big_number 2 (drop 3 body)

abbrev pub identifier_field : List ℕ → ℕ
identifier_field body = big_number 4 (drop 5 body)

abbrev pub parameters_length : List ℕ → ℕ
parameters_length body = slice_index body 9

abbrev pub parameters_of : List ℕ → List ℕ
parameters_of body = drop 10 body

-- ---- capabilities

-- the type of a parameter that holds capabilities (RFC 5492, 4)
abbrev pub holds_capabilities : Triple → Bool
holds_capabilities parameter = parameter.kind == 2

abbrev pub capabilities_in : Triple → List Triple
capabilities_in parameter = if holds_capabilities parameter then (row_of parameter.value).triples else []

-- those of all parameters, from left to right
abbrev pub capabilities_of : List ℕ → List Triple
capabilities_of parameters = flat_map capabilities_in (row_of parameters).triples

-- the capability for four-octet AS numbers (RFC 6793, 3)
abbrev pub is_four_octet_as : Triple → Bool
is_four_octet_as capability = capability.kind == 65

-- the AS number of the first one that is there
abbrev pub four_of : List Triple → Option ℕ
four_of capabilities = option_map (λ c. big_number 4 c.value) (find is_four_octet_as capabilities)

-- the capability for extended messages (RFC 8654, 3); one with a value is passed over
abbrev pub is_extended_message : Triple → Bool
is_extended_message capability = (capability.kind == 6) && (length capability.value == 0)

abbrev pub long_of : List Triple → Bool
long_of capabilities = list_any is_extended_message capabilities

-- ---- what is wrong, in the order in which it is looked for

abbrev pub when : Bool → OpenFault → List OpenFault
when wrong fault = if wrong then fault ∷ [] else []

-- what each triple has, and then octets that are no whole triple
abbrev pub rest_faults : List ℕ → List OpenFault
rest_faults [] = []
rest_faults (octet ∷ octets) = Malformed ∷ []

abbrev pub row_faults : (Triple → List OpenFault) → Row → List OpenFault
row_faults faults row = flat_map faults row.triples ++ rest_faults row.rest

abbrev pub capability_faults : Triple → List OpenFault
capability_faults c = when (is_four_octet_as c && not (length c.value == 4)) Malformed

abbrev pub parameter_faults : Triple → List OpenFault
parameter_faults p =
    if holds_capabilities p then row_faults capability_faults (row_of p.value)
    else Parameter ∷ []

abbrev pub faults_of : List ℕ → List OpenFault
faults_of body =
    let my_as = my_as_field body in
    let four = four_of (capabilities_of (parameters_of body)) in
    when (not (version_field body == 4)) Version
    ++ when (not (parameters_length body == length (parameters_of body))) Malformed
    ++ row_faults parameter_faults (row_of (parameters_of body))
    ++ when (is_refused_hold (hold_field body)) (Hold my_as four)
    ++ when (identifier_field body == 0) (Identifier my_as four)

-- ---- the answer

abbrev pub said_by : List ℕ → Open
said_by body =
    let capabilities = capabilities_of (parameters_of body) in
    record {
      my_as = my_as_field body;
      four = four_of capabilities;
      hold = hold_field body;
      identifier = identifier_field body;
      long = long_of capabilities;
    }

-- the first fault, or where there is none the value
abbrev pub unless : {A : Type 0} → List OpenFault → A → Result A OpenFault
unless [] value = Ok value
unless (fault ∷ faults) value = Err fault

-- what the body says, where nothing is wrong with it, else the first thing that is
abbrev pub open_of : List ℕ → Result Open OpenFault
open_of body = unless (faults_of body) (said_by body)
