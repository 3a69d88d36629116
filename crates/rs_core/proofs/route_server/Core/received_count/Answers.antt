use Rattle.std.proofs.Common.{ap, refl, sym}
use Rattle.std.specs.Prelude.{is_some}
use Rattle.rs_adjin.specs.AdjIns.{held_of}
use Rattle.rs_adjin.proofs.PrefixCounts.{counts_same}
use Rattle.rs_core.specs.Core.{client_count}
use Rattle.rs_core.specs.Run.Meaning.{table}
use Rattle.rs_core.proofs.route_server.Core.received_count.Goals as goal

pub returns : goal.returns
unfolding client_count
returns c = λ run h.
    counts_same (λ p. is_some (held_of c.args.self.now.ribs.tables c.args.c p)) (λ p. is_some (table run c.args.c p)) c.count.result c.count.result (λ p. ap is_some (sym ((h.clients c.args.c c.requires).knows.table p))) refl c.count.ensures
