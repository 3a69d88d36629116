use Rattle.std.proofs.Common.{◌≡◌, ◌∙◌, ℕ, Some, ap, subst, sym}
use Rattle.std.specs.FinMap as fin
use Rattle.rs_octets.specs.Prefixes.{Prefix}
use Rattle.rs_adjin.specs.AdjIns.{number_of}
use Rattle.rs_outlet.specs.Views.{View, AreNumbered}
use Rattle.rs_outlet.specs.Inside.{numbers_from}
use Rattle.rs_outlet.proofs.Decided.LocByNumber.{loc_len}
use Rattle.rs_outlet.proofs.Decided.Numbering.{all_front}
use Rattle.rs_outlet.proofs.outlet.Outlet.count.Goals as goal

pub returns : goal.returns
returns c = λ ins are.
    let a = c.self.inside in
    let rows = a.rows.rows.items in
    let P = λ (e : ℕ × Prefix). number_of ins e.1 ≡ Some e.0 in
    let was = subst (λ (v : View). AreNumbered v ins) (sym c.self.view_is) are in
    c.used.ensures ∙ sym a.rows.counted ∙ sym (loc_len ins 0 rows (all_front P (numbers_from 0 rows) a.touched.prefixes.items was)) ∙ ap (λ (v : View). fin.len v.loc) c.self.view_is
