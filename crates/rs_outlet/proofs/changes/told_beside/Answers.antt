use Rattle.std.proofs.Common.{◌∙◌, Some, ap, sym}
use Rattle.std.specs.Prelude.{not, option_map}
use Rattle.std.specs.Arc.{arc_value}
use Rattle.rs_attrs.specs.Comparing.{same_attributes}
use Rattle.rs_rows.specs.Cells.{taken_of}
use Rattle.rs_outlet.proofs.Pending.Owing.{beside_other, beside_marked, beside_same}
use Rattle.rs_outlet.proofs.changes.told_beside.Goals as goal

pub returns-then-ne : goal.returns-then-ne
returns-then-ne c =
    let due = arc_value c.args.due.now in
    let told = c.in-Some.attrs.now in
    let tells = c.ne.ensures ∙ ap (λ m. not (same_attributes told m)) c.deref.ensures in
    let both = beside_other (taken_of c.args.told) told due c.args.marked c.ne.result (sym c.attrs.ensures ∙ ap (option_map _) c.in-Some.is) tells c.if-ne.true in
    (c.of.ensures (Some due), both.1)

pub returns-then-marked : goal.returns-then-marked
returns-then-marked c =
    let due = arc_value c.args.due.now in
    let told = c.in-Some.attrs.now in
    let tells = c.ne.ensures ∙ ap (λ m. not (same_attributes told m)) c.deref.ensures in
    beside_marked (taken_of c.args.told) told due c.args.marked c.ne.result (sym c.attrs.ensures ∙ ap (option_map _) c.in-Some.is) tells c.if-ne.false c.if-marked.true

pub returns : goal.returns
returns c =
    let due = arc_value c.args.due.now in
    let told = c.in-Some.attrs.now in
    let tells = c.ne.ensures ∙ ap (λ m. not (same_attributes told m)) c.deref.ensures in
    beside_same (taken_of c.args.told) told due c.args.marked c.ne.result (sym c.attrs.ensures ∙ ap (option_map _) c.in-Some.is) tells c.if-ne.false c.if-marked.false
