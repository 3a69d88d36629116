use Rattle.std.proofs.Common.{◌∙◌, ap}
use Rattle.rs_adjin.specs.Numbering.{routes_by}
use Rattle.rs_adjin.proofs.adj_ins.AdjIns.routes.Goals as goal

pub returns-in-Some : goal.returns-in-Some
returns-in-Some c = c.routes.ensures ∙ ap (routes_by c.args.self.now.table.rows.items) c.in-Some.ensures

pub returns-in-None : goal.returns-in-None
returns-in-None c = ap (routes_by c.args.self.now.table.rows.items) c.in-None.ensures
