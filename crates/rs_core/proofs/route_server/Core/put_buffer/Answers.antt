use Rattle.std.proofs.Common.{◌<◌, ℕ, length, sym, ap, subst}
use Rattle.std.specs.Global.{Vec}
use Rattle.rs_core.specs.Core.{client_count}
use Rattle.rs_core.proofs.Run.Lists.{set_at}
use Rattle.rs_core.proofs.route_server.Core.put_buffer.Goals as goal

pub returns-clause-put : goal.returns-clause-put
unfolding client_count
returns-clause-put c = λ x is.
    let buffers = c.args.self.now.buffers.items in
    let lt : c.args.c < length buffers = subst (λ k. c.args.c < k) (sym c.args.self.now.buffers_len) c.requires in
    ap (λ (octets : Vec ℕ). octets.items) ((set_at buffers c.args.c c.args.octets lt).own x is)

pub returns-clause-others : goal.returns-clause-others
unfolding client_count
returns-clause-others c =
    let buffers = c.args.self.now.buffers.items in
    let lt : c.args.c < length buffers = subst (λ k. c.args.c < k) (sym c.args.self.now.buffers_len) c.requires in
    (set_at buffers c.args.c _ lt).others
