use Rattle.std.proofs.Common.{◌≡◌, ◌∙◌, ◌++◌, ◌∷◌, ◌*◌, [], Some, None, ap, sym}
use Rattle.std.specs.Prelude.{option_map}
use Rattle.std.specs.Arc.{arc_value}
use Rattle.rs_rows.specs.Places.{lent_row}
use Rattle.rs_rows.specs.Rows.{Row, row_at}
use Rattle.rs_outlet.specs.Decided.News.{row_of, slot_with}
use Rattle.rs_outlet.proofs.Pending.Pieces.{row_from}
use Rattle.rs_outlet.proofs.filled.Whole.list_slot.Goals as goal

pub returns-in-Some-clause-items : goal.returns-in-Some-clause-items
returns-in-Some-clause-items c = λ n is.
    let w = c.args.self.now in
    let row = c.in-Some.row in
    let at = row_from (w.place * 16) (arc_value w.block).rows.items c.args.index n is in
    let there : Some (lent_row row) ≡ row_of n = ap (option_map lent_row) (sym c.in-Some.is) ∙ c.at.ensures ∙ ap (λ b. row_at b.rows.items c.args.index) c.deref.ensures ∙ at.0 in
    let same : lent_row row ≡ record { prefix = n.prefix; attributes = arc_value n.attrs } = cc there in
    let number = c.number_at.ensures ∙ sym at.1 in
    c.push_reserved.ensures.items
    ∙ ap (λ s. c.args.fresh.now.items ++ s ∷ []) (c.slot_for.ensures ∙ ap (slot_with c.number_at.result row.prefix) c.deref-in-Some.ensures ∙ (λ j. slot_with (number j) (let r : Row = same j in r.prefix) (let r : Row = same j in r.attributes)))

pub returns-in_default-clause-items : goal.returns-in_default-clause-items
returns-in_default-clause-items c = λ n is.
    let w = c.args.self.now in
    let at = row_from (w.place * 16) (arc_value w.block).rows.items c.args.index n is in
    absurd (let f : None ≡ row_of n = ap (option_map lent_row) (sym c.in_default.is) ∙ c.at.ensures ∙ ap (λ b. row_at b.rows.items c.args.index) c.deref.ensures ∙ at.0 in (cc))
