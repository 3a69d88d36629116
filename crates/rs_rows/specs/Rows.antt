-- The rows of a Loc-RIB, by the numbers of their prefixes.
use Rattle.std.specs.Prelude.{◌≡◌, ◌/◌, ℕ, suc, Bool, true, Option, None, Some, List, [], ◌∷◌, slice_get, slice_set}
use Rattle.rs_octets.specs.Prefixes.{Prefix}
use Rattle.rs_attrs.specs.Meaning.{Attribute}

-- a route that is due, beside its prefix
pub record Row : Type 0 where
  pub prefix : Prefix
  pub attributes : List Attribute

abbrev pub joined : Option (Option Row) → Option Row
joined None = None
joined (Some row) = row

-- the row of a number
abbrev pub row_at : List (Option Row) → ℕ → Option Row
row_at rows n = joined (slice_get rows n)

abbrev pub shown : Option Row → Option (List Attribute)
shown None = None
shown (Some row) = Some row.attributes

-- what callers see of rows in blocks of 16: the row of each number, none where it is free; and of each block whether it is
-- prepared, so that its rows can be written
pub record Listed : Type 0 where
  pub items : List (Option Row)
  pub prepared : List Bool

-- the block of this number is prepared
abbrev pub IsPrepared : List Bool → ℕ → Type 0
IsPrepared prepared n = slice_get prepared (n / 16) ≡ Some true

-- rows written one after the other, from this number on
abbrev pub written_from : ℕ → List (Option Row) → List (Option Row) → List (Option Row)
written_from n [] rows = rows
written_from n (x ∷ xs) rows = written_from (suc n) xs (slice_set rows n x)
