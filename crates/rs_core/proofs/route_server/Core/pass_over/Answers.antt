use Rattle.std.proofs.Common.{◌<◌, length, sym, subst}
use Rattle.rs_core.specs.Core.{client_count}
use Rattle.rs_core.proofs.Run.Lists.{set_at}
use Rattle.rs_core.proofs.route_server.Core.pass_over.Goals as goal

pub returns-clause-others : goal.returns-clause-others
unfolding client_count
returns-clause-others c =
    let buffers = c.args.self.now.buffers.items in
    let lt : c.args.c < length buffers = subst (λ k. c.args.c < k) (sym c.args.self.now.buffers_len) c.requires in
    (set_at buffers c.args.c _ lt).others
