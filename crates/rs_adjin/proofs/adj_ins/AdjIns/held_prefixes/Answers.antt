use Rattle.std.proofs.Common.{subst, sym}
use Rattle.rs_adjin.specs.AdjIns.{is_held}
use Rattle.rs_adjin.specs.Listing.{Counts}
use Rattle.rs_adjin.proofs.Used.{held_counted}
use Rattle.rs_adjin.proofs.adj_ins.AdjIns.held_prefixes.Goals as goal

pub returns : goal.returns
returns c = subst (Counts (is_held c.args.self.now)) (sym c.used.ensures) (held_counted c.args.self.now)
