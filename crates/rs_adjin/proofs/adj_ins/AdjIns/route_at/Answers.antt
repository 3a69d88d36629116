use Rattle.std.proofs.Common.{◌∙◌, ap, sym, subst}
use Rattle.rs_adjin.specs.Routes.{IsRising, value_in}
use Rattle.rs_adjin.specs.Numbering.{routes_by}
use Rattle.rs_adjin.specs.AdjIns.{number_of, held_of}
use Rattle.rs_adjin.proofs.Holding.{row_rises}
use Rattle.rs_adjin.proofs.adj_ins.AdjIns.route_at.Goals as goal

pub route_in-requires : goal.route_in-requires
route_in-requires c = subst IsRising (sym c.routes.ensures) (row_rises c.args.self.now.table c.args.self.now.whole c.args.number)

pub returns : goal.returns
unfolding number_of held_of
returns c p is = c.route_in.ensures ∙ ap (value_in c.args.client) (c.routes.ensures ∙ sym (ap (routes_by c.args.self.now.table.rows.items) is))
