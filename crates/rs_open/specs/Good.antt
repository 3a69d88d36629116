-- What a good OPEN is, by its octets alone (RFC 4271, 4.2 and 6.2; RFC 5492, 4).
use Rattle.std.specs.Prelude.{◌≡◌, ◌≢◌, ℕ, ◌≤◌, ◌⊎◌, List, length}
use Rattle.std.specs.List.{flat_map, AllByRecursion}
use Rattle.rs_open.specs.Triples.{Triple, triple_octets}
use Rattle.rs_open.specs.Opens.{version_field, hold_field, identifier_field, parameters_length, parameters_of}

-- the octets are whole triples, each of them good
pub record AreWhole (IsGood : Triple → Type 0) (octets : List ℕ) : Type 0 where
  pub triples : List Triple
  pub octets_are : octets ≡ flat_map triple_octets triples
  pub each : AllByRecursion IsGood triples

-- capability 65 holds an AS number of four octets (RFC 6793, 3)
abbrev pub IsGoodCapability : Triple → Type 0
IsGoodCapability c = c.kind ≡ 65 → length c.value ≡ 4

-- a parameter of type 2 that holds whole capabilities
pub record IsGoodParameter (p : Triple) : Type 0 where
  pub kind : p.kind ≡ 2
  pub capabilities : AreWhole IsGoodCapability p.value

-- 0, or at least 3 seconds (RFC 4271, 6.2)
abbrev pub IsGoodHold : ℕ → Type 0
IsGoodHold hold = (hold ≡ 0) ⊎ (3 ≤ hold)

pub record IsGoodOpen (body : List ℕ) : Type 0 where
  pub version : version_field body ≡ 4
  pub reaches : parameters_length body ≡ length (parameters_of body)
  pub parameters : AreWhole IsGoodParameter (parameters_of body)
  pub hold : IsGoodHold (hold_field body)
  pub identifier : identifier_field body ≢ 0
