use Rattle.std.proofs.Common.{◌∙◌, ap}
use Rattle.std.specs.FinMap as fin
use Rattle.rs_outlet.specs.Views.{View}
use Rattle.rs_outlet.proofs.Decided.LocByNumber.{numbered}
use Rattle.rs_outlet.proofs.Decided.Numbering.{rows_numbered}
use Rattle.rs_outlet.proofs.Decided.Listings.{routes_listed}
use Rattle.rs_outlet.proofs.outlet.Outlet.routes.Goals as goal

pub returns : goal.returns
returns c = λ are.
    let ins = c.args.ins.now in
    let rows = c.self.inside.rows.rows.items in
    c.new.ensures
    ∙ routes_listed rows ins c.iter.result (numbered ins rows (rows_numbered ins c.self.inside c.args.self.now c.self.view_is are)) c.iter.ensures.rising c.iter.ensures.numbers c.iter.ensures.each
    ∙ ap (λ (v : View). fin.entries v.loc) c.self.view_is
