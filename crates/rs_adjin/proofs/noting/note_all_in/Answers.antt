use Rattle.std.proofs.Common.{◌∙◌, refl, sym}
use Rattle.rs_adjin.proofs.TableRows.{inverse_same}
use Rattle.rs_adjin.proofs.NotedRows.{noted_prefix, noted_count, noted_uses, noted_vacant, noted_table, rows_known}
use Rattle.rs_adjin.proofs.noting.note_all_in.Goals as goal

pub note_rows-requires : goal.note_rows-requires
note_rows-requires g c = rows_known (g.N.Notes.known c.args.notes.now) c.args.table.now c.requires

pub invariant_of-table : goal.invariant_of-table
invariant_of-table g c =
    let f = g.N.Notes.note_by c.args.notes.now in
    let old = c.args.table.now.rows.items in
    let new = c.note_rows.new.rows.items in
    record {
      inverse = inverse_same c.args.table.now.numbers old new (noted_prefix f old new c.note_rows.ensures) c.args.table.now.inverse;
      vacant = noted_vacant f old new c.note_rows.ensures c.args.table.now.vacant;
      counted = noted_count f old new c.note_rows.ensures ∙ c.args.table.now.counted;
      shared = λ s. c.args.table.now.shared s ∙ sym (noted_uses f s old new c.note_rows.ensures);
    }

pub returns : goal.returns
returns g c = record { numbers = λ q. refl; routes = noted_table (g.N.Notes.note_by c.args.notes.now) c.args.table.now c.note_rows.new.rows.items c.note_rows.ensures }
