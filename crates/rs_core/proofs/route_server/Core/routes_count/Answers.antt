use Rattle.std.proofs.Common.{◌∙◌, ap}
use Rattle.rs_core.specs.Core.{loc_in, loc_rib}
use Rattle.rs_core.proofs.Run.Asking.{listed_len}
use Rattle.rs_core.proofs.Told.InTurn.{outlet_read}
use Rattle.rs_core.proofs.route_server.Core.routes_count.Goals as goal

pub returns : goal.returns
unfolding loc_rib
returns c = λ routes up same.
    let v = c.index-outlet.result.now in
    let outlet = outlet_read c.args.self.now c.args.c v c.requires c.index-outlet.ensures in
    c.count.ensures c.args.self.now.ribs.tables outlet.numbered ∙ listed_len v.loc routes up (λ p. same p ∙ ap (λ o. loc_in o p) outlet.read)
