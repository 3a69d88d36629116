-- The words of the private contracts: what the fields of a body are, and which set of prefixes a list is.
use Rattle.std.specs.Prelude.{◌≡◌, ℕ, ◌&&◌, not, List}
use Rattle.std.specs.Borrow.{Bor}
use Rattle.rs_octets.specs.Prefixes.{Prefix}
use Rattle.rs_attrs.specs.Effects.{Fields, Cut, has_prefix}
use Rattle.rs_update.specs.declared.fields.Fields.{Fields as FieldsRead}

-- the fields of a body
abbrev pub fields_in : FieldsRead → Fields
fields_in fields = record { withdrawn = fields.withdrawn.now; attributes = fields.attributes.now; nlri = fields.nlri.now }

-- a field and what follows it
abbrev pub cut_in : Bor (List ℕ) × Bor (List ℕ) → Cut
cut_in parts = record { field = parts.0.now; after = parts.1.now }

-- the second list has just the prefixes of the first
abbrev pub SameMembers : List Prefix → List Prefix → Type 0
SameMembers old new = (p : Prefix) → has_prefix p new ≡ has_prefix p old

-- the new list has just the prefixes of the old one that the others lack
abbrev pub LacksMembers : List Prefix → List Prefix → List Prefix → Type 0
LacksMembers old others new = (p : Prefix) → has_prefix p new ≡ (has_prefix p old && not (has_prefix p others))
