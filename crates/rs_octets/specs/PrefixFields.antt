-- How fields of messages spell prefixes, and what such a field holds (RFC 4271, 4.3 and 6.3).
use Rattle.std.specs.Prelude.{◌≡◌, ℕ, zero, suc, ◌≤◌, List, [], ◌∷◌, ◌++◌, length, map, take, drop, Result, Ok, Err, nat_lt, if◌then◌else◌}
use Rattle.std.specs.Int.{w32, to_be_bytes, from_be_bytes}
use Rattle.rs_octets.specs.declared.prefix.FieldFault.{FieldFault}
use Rattle.rs_octets.specs.declared.prefix.FieldFault.TheVariants.{TooLong, Cut}
use Rattle.rs_octets.specs.Parts.{Splits}
use Rattle.rs_octets.specs.Prefixes.{Prefix, masked, octet_count}

-- the octets of a prefix: its length, and as many octets as hold its bits
abbrev pub prefix_octets : Prefix → List ℕ
prefix_octets p = p.len ∷ take (octet_count p.len) (to_be_bytes w32 p.bits)

-- the prefix of this length whose first bits are those of the octets; octets that are not there are 0
abbrev pub prefix_at : ℕ → List ℕ → Prefix
prefix_at len octets = record { bits = masked (from_be_bytes w32 (octets ++ drop (length octets) (0 ∷ 0 ∷ 0 ∷ 0 ∷ []))) len; len = len }

-- a prefix as it stands in a field, where bits behind the length may be anything
pub record SpeltPrefix : Type 0 where
  pub len : ℕ
  pub address : List ℕ

abbrev pub IsSpeltPrefix : SpeltPrefix → Type 0
IsSpeltPrefix s = (s.len ≤ 32) × (length s.address ≡ octet_count s.len)

abbrev pub spelt_octets : SpeltPrefix → List ℕ
spelt_octets s = s.len ∷ s.address

-- the fault of octets that begin with no prefix: there is one where there are octets
abbrev pub field_fault_of : List ℕ → List (Result Prefix FieldFault)
field_fault_of [] = []
field_fault_of (len ∷ octets) = Err (if nat_lt 32 len then TooLong else Cut) ∷ []

-- what a field of prefixes holds: the prefixes that stand there from left to right, and the fault,
-- where there is one, as the last
pub record ReadsPrefixes (field : List ℕ) (read : List (Result Prefix FieldFault)) : Type 0 where
  pub spelt : List SpeltPrefix
  pub rest : List ℕ
  pub split : Splits spelt_octets IsSpeltPrefix field spelt rest
  pub are : read ≡ map (λ s. Ok (prefix_at s.len s.address)) spelt ++ field_fault_of rest

-- ---- the same, computed

-- what a field holds behind its first n octets
abbrev pub prefixes_behind : ℕ → List ℕ → List (Result Prefix FieldFault)
prefixes_behind n [] = []
prefixes_behind (suc n) (octet ∷ octets) = prefixes_behind n octets
prefixes_behind zero (len ∷ octets) =
    if nat_lt 32 len then Err TooLong ∷ []
    else if nat_lt (length octets) (octet_count len) then Err Cut ∷ []
    else Ok (prefix_at len (take (octet_count len) octets)) ∷ prefixes_behind (octet_count len) octets

abbrev pub prefixes_of : List ℕ → List (Result Prefix FieldFault)
prefixes_of octets = prefixes_behind 0 octets
