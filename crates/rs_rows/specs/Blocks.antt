-- The rows of blocks, and which of these can be written.
use Rattle.std.specs.Prelude.{◌≡◌, ◌++◌, ℕ, Bool, true, false, Option, None, List, map, replicate}
use Rattle.std.specs.List.{flat_map}
use Rattle.std.specs.Arc.{arc_value}
use Rattle.rs_rows.specs.Rows.{Row, Listed}
use Rattle.rs_rows.specs.declared.part.Part.{Part}
use Rattle.rs_rows.specs.declared.part.Part.TheVariants as part

-- 16 rows, of which none has a route
abbrev pub free_rows : List (Option Row)
free_rows = replicate 16 None

abbrev pub rows_in : Part → List (Option Row)
rows_in part.Free = free_rows
rows_in (part.Own block) = block.value.rows.items
rows_in (part.Over draft) = draft.value.cells.items
rows_in (part.Shared block) = (arc_value block).rows.items

abbrev pub is_own : Part → Bool
is_own part.Free = false
is_own (part.Own block) = true
is_own (part.Over draft) = true
is_own (part.Shared block) = false

-- the rows of all blocks, one after the other
abbrev pub listed : List Part → Listed
listed parts = record { items = flat_map rows_in parts; prepared = map is_own parts }

-- rows are as they were, with free ones behind them
abbrev pub IsGrown : List (Option Row) → List (Option Row) → Type 0
IsGrown old new = (k : ℕ) × (new ≡ old ++ replicate k None)
