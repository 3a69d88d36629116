use Rattle.std.proofs.Common.{◌∙◌, ap, sym, subst}
use Rattle.rs_adjin.specs.Routes.{IsRising, value_in}
use Rattle.rs_adjin.specs.AdjIns.{held_of}
use Rattle.rs_adjin.proofs.adj_ins.AdjIns.route.Goals as goal

pub route_in-requires : goal.route_in-requires
route_in-requires c = subst IsRising (sym c.routes.ensures) (c.args.self.now.whole.rising c.args.prefix)

pub returns : goal.returns
unfolding held_of
returns c = c.route_in.ensures ∙ ap (value_in c.args.client) c.routes.ensures
