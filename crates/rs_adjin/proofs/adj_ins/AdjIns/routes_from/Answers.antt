use Rattle.std.proofs.Common.{T, ◌∙◌, ap, sym, subst}
use Rattle.std.specs.FinMap.{find, is_sorted}
use Rattle.rs_octets.specs.Prefixes.{prefix_order}
use Rattle.rs_adjin.specs.AdjIns.{held_of}
use Rattle.rs_adjin.proofs.RoutesHeld.{held_each, held_found, held_rise}
use Rattle.rs_adjin.proofs.adj_ins.AdjIns.routes_from.Goals as goal

pub new-requires-clause-held : goal.new-requires-clause-held
new-requires-clause-held c = held_each (held_of c.args.self.now c.args.client) c.held_from.result (λ p h. ((c.held_from.ensures.all p).0 h).1)

pub returns-clause-rising : goal.returns-clause-rising
returns-clause-rising c = subst (λ es. T (is_sorted prefix_order es)) (sym c.new.ensures) (held_rise (held_of c.args.self.now c.args.client) c.held_from.result c.held_from.ensures.rising)

pub returns-clause-routes : goal.returns-clause-routes
returns-clause-routes c p = ap (find prefix_order p) c.new.ensures ∙ held_found (held_of c.args.self.now c.args.client) c.args.from c.held_from.result c.held_from.ensures.all p
