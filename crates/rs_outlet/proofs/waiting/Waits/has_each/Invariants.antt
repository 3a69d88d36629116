use Rattle.std.proofs.Common.{◌≡◌, ◌<◌, ℕ, Some, IsSome}
use Rattle.rs_rows.specs.Rows.{Row}
use Rattle.rs_outlet.specs.Inside.{row_at}
use Rattle.rs_outlet.specs.Pending.Slots.{open_at}
use Rattle.rs_outlet.proofs.waiting.Waits.has_each.Given as goal

abbrev pub invariant-loop-index : goal.invariant-loop-index
invariant-loop-index l = (n : ℕ) (row : Row) → n < l.index → row_at l.rows.rows.items n ≡ Some row → IsSome (open_at row.prefix l.self.slots.items)
