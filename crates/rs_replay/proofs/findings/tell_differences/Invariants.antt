use Rattle.std.proofs.Common.{take}
use Rattle.std.specs.List.{flat_map}
use Rattle.rs_replay.specs.Findings.{difference_line}
use Rattle.rs_replay.proofs.findings.tell_differences.Given as goal

-- the lines of those before it were put
abbrev pub invariant-loop-difference : goal.invariant-loop-difference
invariant-loop-difference g l = g.W.TextOut.puts l.initial.writer (flat_map (λ d. difference_line l.name (d.prefix, d.kind)) (take l.difference-index l.differences)) l.writer
