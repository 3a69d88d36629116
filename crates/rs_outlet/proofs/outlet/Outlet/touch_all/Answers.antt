use Rattle.std.proofs.Common.{◌≡◌, ℕ, Some, sym, subst}
use Rattle.rs_octets.specs.Prefixes.{Prefix}
use Rattle.std.specs.List.{AllByRecursion}
use Rattle.rs_adjin.specs.AdjIns.{number_of}
use Rattle.rs_outlet.specs.Views.{View, AreNumbered}
use Rattle.rs_outlet.specs.Inside.{numbers_from}
use Rattle.rs_outlet.proofs.Decided.Numbering.{all_front, all_both}
use Rattle.rs_outlet.proofs.outlet.Outlet.touch_all.Goals as goal

pub returns-then-is_some-clause-numbered : goal.returns-then-is_some-clause-numbered
returns-then-is_some-clause-numbered c = λ ins h.
    let P = λ (e : ℕ × Prefix). number_of ins e.1 ≡ Some e.0 in
    let rows = numbers_from 0 c.self.inside.rows.rows.items in
    let was = subst (λ (v : View). AreNumbered v ins) (sym c.self.view_is) h in
    all_both P rows _ (all_front P rows _ was) (subst (AllByRecursion P) (sym c.add_all.ensures.prefixes) tt)
