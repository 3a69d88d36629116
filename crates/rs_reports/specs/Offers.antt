-- What the OPEN at the front of a client's octets says (RFC 4271, 4.2), for the log.
use Rattle.std.specs.Prelude.{◌≡◌, ℕ, List, Option, Some, None, Result, Ok, Err, false}
use Rattle.std.specs.Option.{unwrap_or}
use Rattle.rs_octets.specs.declared.heads.Allowed.{Allowed}
use Rattle.rs_octets.specs.declared.heads.Kind.TheVariants as kinds
use Rattle.rs_octets.specs.declared.fronts.Front.{Front}
use Rattle.rs_octets.specs.declared.fronts.Front.TheVariants as fronts
use Rattle.rs_octets.specs.Fronts.{IsFront}
use Rattle.rs_open.specs.declared.open.Open.{Open}
use Rattle.rs_open.specs.declared.open.OpenFault.{OpenFault}
use Rattle.rs_open.specs.declared.open.OpenFault.TheVariants as faults
use Rattle.rs_open.specs.Opens.{open_of, version_field, my_as_field, hold_field, identifier_field}
use Rattle.rs_reports.specs.declared.offers.Offered.{Offered}

-- the AS number of the capability for four octets (RFC 6793, 3), where the capabilities are read
abbrev pub four_read : Result Open OpenFault → Option ℕ
four_read (Ok said) = said.four
four_read (Err (faults.Hold my_as four)) = four
four_read (Err (faults.Identifier my_as four)) = four
four_read (Err faults.Version) = None
four_read (Err faults.Malformed) = None
four_read (Err faults.Parameter) = None

abbrev pub number_in : List ℕ → ℕ
number_in body = unwrap_or (four_read (open_of body)) (my_as_field body)

abbrev pub offered_by : List ℕ → Offered
offered_by body = record { version = version_field body; number = number_in body; hold = hold_field body; identifier = identifier_field body }

abbrev pub offered_at : Front → Option Offered
offered_at (fronts.Message kinds.Open body rest) = Some (offered_by body.now)
offered_at (fronts.Message kinds.Update body rest) = None
offered_at (fronts.Message kinds.Note body rest) = None
offered_at (fronts.Message kinds.Keepalive body rest) = None
offered_at (fronts.Message kinds.Refresh body rest) = None
offered_at (fronts.Fault fault) = None
offered_at (fronts.Wants n) = None

-- what may be sent before an OPEN is answered: no message is longer than 4,096 octets
abbrev pub at_first : Allowed
at_first = record { long = false; refresh = false }

-- what stands at the front of the octets says this
pub record IsOffered (octets : List ℕ) (offered : Option Offered) : Type 0 where
  pub front : Front
  pub stands : IsFront at_first octets front
  pub says : offered ≡ offered_at front
