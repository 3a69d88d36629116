-- What lies in a cell of a block that is written, and what was taken out of one.
use Rattle.std.specs.Prelude.{ℕ, Option, None, Some, List}
use Rattle.std.specs.Arc.{arc_value}
use Rattle.rs_attrs.specs.Meaning.{Attribute}
use Rattle.rs_rows.specs.Rows.{Row, row_at, shown}
use Rattle.rs_rows.specs.declared.block.Block.{Block}
use Rattle.rs_rows.specs.declared.cell.Lying.{Lying}
use Rattle.rs_rows.specs.declared.cell.Lying.TheVariants as lying
use Rattle.rs_rows.specs.declared.taken.Taken.{Taken}
use Rattle.rs_rows.specs.declared.taken.Taken.TheVariants as taken

-- the row at an index of a block
abbrev pub row_within : ℕ → Block → Option Row
row_within index block = row_at block.rows.items index

-- the attributes at an index of a block
abbrev pub within : ℕ → Block → Option (List Attribute)
within index block = shown (row_within index block)

abbrev pub cell_row : Lying → Option Row
cell_row (lying.Here place) = place
cell_row (lying.Within index block) = row_within index (arc_value block)

-- the attributes that were taken, where there was a route
abbrev pub taken_of : Taken → Option (List Attribute)
taken_of taken.Nothing = None
taken_of (taken.One attrs) = Some (arc_value attrs)
taken_of (taken.Within index block) = within index (arc_value block)
