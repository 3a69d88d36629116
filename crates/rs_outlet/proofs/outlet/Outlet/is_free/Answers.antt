use Rattle.std.proofs.Common.{ap, sym, ◌∙◌, subst}
use Rattle.std.specs.Prelude.{option_map}
use Rattle.rs_outlet.specs.Views.{View}
use Rattle.rs_outlet.specs.Inside.{IsNoNumberOf, numbers_from}
use Rattle.rs_rows.specs.Places.{lent_row}
use Rattle.rs_outlet.proofs.Decided.Numbering.{all_both, all_front, free_number, taken_number}
use Rattle.rs_outlet.proofs.Decided.TouchedList.{none_listed}
use Rattle.rs_outlet.proofs.outlet.Outlet.is_free.Goals as goal

pub returns-in-Some-clause-all : goal.returns-in-Some-clause-all
returns-in-Some-clause-all c = λ untouched free.
    let a = c.self.inside in
    absurd (taken_number a.rows.rows.items c.args.number _ (sym c.get.ensures ∙ ap (option_map lent_row) c.in-Some.is)
    (all_front _ (numbers_from 0 a.rows.rows.items) a.touched.prefixes.items (subst (λ (v : View). IsNoNumberOf c.args.number v.numbers) (sym c.self.view_is) free)))

pub returns-in-None-clause-free : goal.returns-in-None-clause-free
returns-in-None-clause-free c = λ t.
    let a = c.self.inside in
    subst (λ (v : View). IsNoNumberOf c.args.number v.numbers) c.self.view_is
    (all_both _ (numbers_from 0 a.rows.rows.items) a.touched.prefixes.items
    (free_number a.rows.rows.items c.args.number (sym c.get.ensures ∙ ap (option_map lent_row) c.in-None.is))
    (subst (IsNoNumberOf c.args.number) (sym (c.lists_none.ensures.0 t)) tt))

pub returns-in-None-clause-all : goal.returns-in-None-clause-all
returns-in-None-clause-all c = λ untouched free.
    let a = c.self.inside in
    c.lists_none.ensures.1 (none_listed a.touched.all a.touched.prefixes.items (ap (λ (v : View). v.touched) c.self.view_is ∙ untouched))
