use Rattle.rs_adjin.proofs.NotedRows.{FrontNotes}
use Rattle.rs_adjin.proofs.noting.note_rows.Given as goal

abbrev pub invariant-loop-row : goal.invariant-loop-row
invariant-loop-row g l = FrontNotes (g.N.Notes.note_by l.notes) l.row-index l.fn.rows.items l.row-items
