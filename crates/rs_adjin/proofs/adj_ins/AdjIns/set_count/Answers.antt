use Rattle.std.proofs.Common.{subst, sym}
use Rattle.rs_adjin.specs.AdjIns.{CountsSets}
use Rattle.rs_adjin.proofs.SetsListed.{sets_counted}
use Rattle.rs_adjin.proofs.adj_ins.AdjIns.set_count.Goals as goal

pub returns : goal.returns
returns c = subst (CountsSets c.args.self.now) (sym c.held.ensures) (sets_counted c.args.self.now)
