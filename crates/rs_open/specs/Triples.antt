-- Rows of triples. The parameters of an OPEN are one (RFC 4271, 4.2), and so are the capabilities in
-- a parameter (RFC 5492, 4).
use Rattle.std.specs.Prelude.{ℕ, zero, suc, List, [], ◌∷◌, length, take, nat_lt, ⊤, if◌then◌else◌}
use Rattle.rs_octets.specs.Parts.{Splits}

-- a type or a code, and a value
pub record Triple : Type 0 where
  pub kind : ℕ
  pub value : List ℕ

-- the length that stands between the two is the value's
abbrev pub triple_octets : Triple → List ℕ
triple_octets t = t.kind ∷ length t.value ∷ t.value

-- triples, and the octets behind the last one
pub record Row : Type 0 where
  pub triples : List Triple
  pub rest : List ℕ

-- each triple is one, whatever its value
abbrev pub IsTriple : Triple → Type 0
IsTriple t = ⊤

-- the octets are the triples of this row, and then its rest, of which no triple is a front
abbrev pub IsRow : List ℕ → Row → Type 0
IsRow octets row = Splits triple_octets IsTriple octets row.triples row.rest

-- ---- the one row that octets are

abbrev pub no_triple : List ℕ → Row
no_triple octets = record { triples = []; rest = octets }

abbrev pub with_first : Triple → Row → Row
with_first t row = record { triples = t ∷ row.triples; rest = row.rest }

-- the row behind the first n octets
abbrev pub row_behind : ℕ → List ℕ → Row
row_behind n [] = no_triple []
row_behind (suc n) (octet ∷ octets) = row_behind n octets
row_behind zero (kind ∷ []) = no_triple (kind ∷ [])
row_behind zero (kind ∷ len ∷ octets) =
    if nat_lt (length octets) len then no_triple (kind ∷ len ∷ octets)
    else with_first (record { kind = kind; value = take len octets }) (row_behind len octets)

abbrev pub row_of : List ℕ → Row
row_of octets = row_behind 0 octets
