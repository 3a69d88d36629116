use Rattle.std.proofs.Common.{◌∙◌, ap}
use Rattle.std.specs.FinMap as fin
use Rattle.rs_adjin.specs.Onward.{is_from}
use Rattle.rs_outlet.specs.Views.{View}
use Rattle.rs_outlet.proofs.Decided.LocByNumber.{numbered}
use Rattle.rs_outlet.proofs.Decided.Numbering.{rows_numbered}
use Rattle.rs_outlet.proofs.Decided.Listings.{routes_listed_from}
use Rattle.rs_outlet.proofs.outlet.Outlet.routes_from.Goals as goal

pub returns : goal.returns
returns c = λ are.
    let ins = c.args.ins.now in
    let rows = c.self.inside.rows.rows.items in
    c.new.ensures
    ∙ routes_listed_from rows ins c.args.from c.iter_from.result (numbered ins rows (rows_numbered ins c.self.inside c.args.self.now c.self.view_is are)) c.iter_from.ensures.rising c.iter_from.ensures.numbers c.iter_from.ensures.each
    ∙ ap (λ (v : View). fin.entries (fin.retain_keys v.loc (is_from c.args.from))) c.self.view_is
