-- The changes of a turn carried out: what the rows have then, and what waits.
use Rattle.std.specs.Prelude.{◌≡◌, ◌≤◌, ◌+◌, List, Option, take, if◌then◌else◌}
use Rattle.std.specs.FinMap as fin
use Rattle.std.specs.Vec.{vec_capacity}
use Rattle.rs_octets.specs.Prefixes.{Prefix}
use Rattle.rs_attrs.specs.Meaning.{Attribute}
use Rattle.rs_adjin.specs.declared.adj_ins.AdjIns.{AdjIns}
use Rattle.rs_outlet.specs.declared.answers.Speech.{Speech}
use Rattle.rs_outlet.specs.declared.changes.Change.{Change}
use Rattle.rs_outlet.specs.declared.table.Rows.{Rows}
use Rattle.rs_outlet.specs.declared.waiting.Waits.{Waits}
use Rattle.rs_outlet.specs.Views.{HaveNumbers}
use Rattle.rs_outlet.specs.Inside.{AreBacked, AreChained, AreDue, ArePlaced, ChangesFit, RowsFit, is_changed, loc_of, numbers_from}
use Rattle.rs_outlet.specs.Pending.Owed.{Keeps}
use Rattle.rs_outlet.specs.Pending.Slots.{open_at, withdrawn_count}

-- the rows have what is due at each change and what they had elsewhere, what was told stays, and what waits is as exact as it was
pub record AreCarriedOut (cs : List Change) (rows : Rows) (waits : Waits) (new_rows : Rows) (new_waits : Waits) : Type 0 where
  pub all : new_rows.used + withdrawn_count new_waits.slots.items ≤ vec_capacity new_waits.slots
  pub loc :
      (ins : AdjIns) (due : Prefix → Option (List Attribute)) → ArePlaced cs ins → AreDue due cs → HaveNumbers (numbers_from 0 rows.rows.items) ins
      → (q : Prefix) → fin.get (loc_of new_rows.rows.items) q ≡ (if is_changed cs q then due q else fin.get (loc_of rows.rows.items) q)
  pub numbered : (ins : AdjIns) → ArePlaced cs ins → HaveNumbers (numbers_from 0 rows.rows.items) ins → HaveNumbers (numbers_from 0 new_rows.rows.items) ins
  pub chained :
      AreBacked rows.rows.items waits.slots.items → AreChained rows.rows.items (take waits.sorted waits.slots.items) waits.chains.items
      → AreChained new_rows.rows.items (take new_waits.sorted new_waits.slots.items) new_waits.chains.items
  pub backed : AreBacked rows.rows.items waits.slots.items → AreBacked new_rows.rows.items new_waits.slots.items
  pub fit : (speech : Speech) → ChangesFit speech cs → RowsFit speech rows.rows.items → RowsFit speech new_rows.rows.items
  pub keeps :
      (ins : AdjIns) → ArePlaced cs ins → HaveNumbers (numbers_from 0 rows.rows.items) ins
      → (q : Prefix) → Keeps (open_at q waits.slots.items) (fin.get (loc_of rows.rows.items) q) (open_at q new_waits.slots.items) (fin.get (loc_of new_rows.rows.items) q)
