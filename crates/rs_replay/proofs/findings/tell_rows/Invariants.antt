use Rattle.std.proofs.Common.{take}
use Rattle.std.specs.List.{flat_map}
use Rattle.rs_trace.specs.Replays.{name_in}
use Rattle.rs_replay.specs.Telling.{row_line}
use Rattle.rs_replay.proofs.findings.tell_rows.Given as goal

-- the lines of those before it were put
abbrev pub invariant-loop-row : goal.invariant-loop-row
invariant-loop-row g l = g.W.TextOut.puts l.initial.writer (flat_map (row_line (name_in l.names)) (take l.row-index l.rows)) l.writer
