use Rattle.rs_replay.specs.Telling.{TellsUpTo}
use Rattle.rs_replay.proofs.comparing.tell.Given as goal

abbrev pub invariant-loop-c : goal.invariant-loop-c
invariant-loop-c g l = TellsUpTo g.W.TextOut.puts l.core l.names l.connections l.initial.writer l.c l.told.rows.items l.told.is_same l.writer
