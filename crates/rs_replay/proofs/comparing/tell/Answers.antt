use Rattle.std.specs.List.{flat_map}
use Rattle.std.proofs.Common.{[], ap, subst, sym}
use Rattle.rs_trace.specs.Replays.{name_in}
use Rattle.rs_replay.specs.Telling.{TellsUpTo}
use Rattle.rs_replay.proofs.Telling.{told_none}
use Rattle.rs_replay.proofs.comparing.tell.Goals as goal

pub loop-c-init : goal.loop-c-init
loop-c-init g c =
    subst (λ rows. TellsUpTo g.W.TextOut.puts c.args.core.now c.args.names.now c.args.connections.now c.args.writer.now 0 rows _ c.args.writer.now) (sym c.new.ensures.items)
    (told_none g.W.TextOut.puts g.met.W.TextOut.puts_on c.args.core.now c.args.names.now c.args.connections.now c.args.writer.now c.args.writer.now (g.met.W.TextOut.puts_none c.args.writer.now))
