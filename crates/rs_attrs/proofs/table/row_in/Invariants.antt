use Rattle.std.proofs.Common.{◌≡◌, drop}
use Rattle.rs_attrs.specs.Table.{row_seen}
use Rattle.std.specs.Prelude.{◌==◌, map}
use Rattle.std.specs.List.{find}
use Rattle.rs_attrs.proofs.table.row_in.Given as goal

abbrev pub invariant-loop-row : goal.invariant-loop-row
invariant-loop-row l = find (λ r. r.kind == l.kind) (map row_seen (drop l.row-index l.rows)) ≡ find (λ r. r.kind == l.kind) (map row_seen l.fn.rows)
