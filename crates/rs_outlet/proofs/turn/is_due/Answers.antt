use Rattle.std.proofs.Common.{◌∙◌, ap, sym, Some}
use Rattle.std.specs.Prelude.{option_map}
use Rattle.rs_rows.specs.Places.{lent_row}
use Rattle.rs_outlet.specs.Inside.{shown}
use Rattle.rs_outlet.proofs.turn.is_due.Goals as goal

pub returns-in-Some-Some : goal.returns-in-Some-Some
returns-in-Some-Some c = λ t.
    let s = c.in-Some-Some in
    ap (λ row. shown (option_map (λ lent. lent_row lent.now) row)) s.is-0
    ∙ ap (λ m. Some m) (c.has.ensures t ∙ c.attrs.ensures)
    ∙ ap (option_map _) (sym s.is-1)
