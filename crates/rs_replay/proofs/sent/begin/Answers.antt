use Rattle.std.proofs.Common.{arith}
use Rattle.rs_core.proofs.Run.Lists.{set_at}
use Rattle.rs_replay.proofs.SentTo.{have_begun, have_begun_beyond}
use Rattle.rs_replay.proofs.sent.begin.Goals as goal

pub returns-then-c-connections : goal.returns-then-c-connections
returns-then-c-connections c = λ entries have.
    have_begun c.args.core.now entries c.args.c c.args.connections.now _ c.new.result (set_at c.args.connections.now c.args.c c.new.result (omega (arith, c.if-c-connections.true))) c.new.ensures have

pub returns-else-c-connections : goal.returns-else-c-connections
returns-else-c-connections c = λ entries have. have_begun_beyond c.args.core.now entries c.args.c c.args.connections.now (omega (arith, c.if-c-connections.false)) have
