use Rattle.std.proofs.Common.{◌≡◌, ◌∙◌, ap, sym, subst, ℕ, None, Some}
use Rattle.std.specs.FinMap as map
use Rattle.rs_octets.specs.Prefixes.{Prefix}
use Rattle.rs_adjin.specs.AdjIns.{number_of}
use Rattle.rs_outlet.specs.Views.{View, AreNumbered, HaveNumbers}
use Rattle.rs_outlet.specs.Inside.{numbers_from}
use Rattle.rs_outlet.proofs.Decided.Numbering.{all_front}
use Rattle.rs_outlet.proofs.Decided.LocByNumber.{numbered, by_number}
use Rattle.rs_outlet.proofs.outlet.Outlet.route.Goals as goal

pub returns-in-None : goal.returns-in-None
returns-in-None c = λ are.
    let ins = c.args.ins.now in
    let rows = c.self.inside.rows.rows.items in
    let P = λ (e : ℕ × Prefix). number_of ins e.1 ≡ Some e.0 in
    let h : HaveNumbers (numbers_from 0 rows) ins = all_front P (numbers_from 0 rows) _ (subst (λ (v : View). AreNumbered v ins) (sym c.self.view_is) are) in
    sym (by_number ins rows (numbered ins rows h) c.args.prefix.now None (sym c.number.ensures.number ∙ c.in-None.is))
    ∙ ap (λ (v : View). map.get v.loc c.args.prefix.now) c.self.view_is

pub returns-in-Some : goal.returns-in-Some
returns-in-Some c = λ are.
    let ins = c.args.ins.now in
    let rows = c.self.inside.rows.rows.items in
    let P = λ (e : ℕ × Prefix). number_of ins e.1 ≡ Some e.0 in
    let h : HaveNumbers (numbers_from 0 rows) ins = all_front P (numbers_from 0 rows) _ (subst (λ (v : View). AreNumbered v ins) (sym c.self.view_is) are) in
    c.attrs.ensures ∙ sym (by_number ins rows (numbered ins rows h) c.args.prefix.now (Some c.in-Some.number) (sym c.number.ensures.number ∙ c.in-Some.is))
    ∙ ap (λ (v : View). map.get v.loc c.args.prefix.now) c.self.view_is
