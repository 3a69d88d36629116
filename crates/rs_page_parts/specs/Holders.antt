-- Who holds a route for a prefix.
use Rattle.std.specs.Prelude.{ℕ, List}
use Rattle.std.specs.Arc.{arc_value}
use Rattle.rs_attrs.specs.Meaning.{Attribute}
use Rattle.rs_page_parts.specs.declared.tables.Holder.{Holder}

-- a route for a prefix: its member, the BGP Identifier of the member's session, and the attributes
pub record Holding : Type 0 where
  pub member : ℕ
  pub identifier : ℕ
  pub attributes : List Attribute

abbrev pub holding : Holder → Holding
holding h = record { member = h.member; identifier = h.identifier; attributes = arc_value h.attrs.now }
