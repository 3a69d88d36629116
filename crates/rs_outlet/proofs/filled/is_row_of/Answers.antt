use Rattle.std.proofs.Common.{◌≡◌, ◌∙◌, ap, sym, Some}
use Rattle.std.specs.Prelude.{option_map}
use Rattle.std.specs.Arc.{arc_value}
use Rattle.rs_attrs.specs.ComparisonLaws.{attributes_decides}
use Rattle.rs_rows.specs.Places.{lent_row}
use Rattle.rs_outlet.proofs.Decided.Touches.{prefix_eq-is}
use Rattle.rs_outlet.proofs.filled.is_row_of.Goals as goal

pub returns-then-eq : goal.returns-then-eq
returns-then-eq c = λ t.
    let row = c.in-Some.row.now in
    let news = c.args.news.now in
    let prefix : row.prefix ≡ news.prefix = prefix_eq-is row.prefix news.prefix (sym c.eq.ensures ∙ c.if-eq.true) in
    let attributes : arc_value row.attrs.now ≡ arc_value news.attrs = (attributes_decides (arc_value row.attrs.now) (arc_value news.attrs)).0 (sym c.eq-then-eq.ensures ∙ t) in
    ap (option_map (λ row. lent_row row.now)) c.in-Some.is ∙ (λ j. Some (record { prefix = prefix j; attributes = attributes j }))
