use Rattle.std.proofs.Common.{sym, subst}
use Rattle.std.specs.Prelude.{is_some}
use Rattle.rs_adjin.specs.Listing.{Counts}
use Rattle.rs_adjin.specs.Routes.{value_in}
use Rattle.rs_adjin.specs.Numbers.{routes_at}
use Rattle.rs_adjin.specs.Table.{IsHeldBy}
use Rattle.rs_adjin.specs.AdjIns.{client_count, held_of}
use Rattle.rs_adjin.proofs.Holding.{held_counts}
use Rattle.rs_adjin.proofs.Ties.{tied_at}
use Rattle.rs_adjin.proofs.adj_ins.AdjIns.count.Goals as goal

pub returns : goal.returns
unfolding client_count held_of
returns c =
    let table = c.args.self.now.table in
    let tied : IsHeldBy c.args.client c.index.result.now table = tied_at c.args.self.now.held.items table c.args.client _ c.index.result.now c.args.self.now.tied c.requires (sym c.args.self.now.sets) c.index.ensures in
    subst (Counts (λ p. is_some (value_in c.args.client (routes_at table p)))) (sym c.count.ensures) (held_counts c.args.client c.index.result.now table tied)
