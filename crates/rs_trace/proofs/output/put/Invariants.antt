use Rattle.std.proofs.Common.{◌≡◌, ℕ, List, ◌++◌, length}
use Rattle.rs_trace.proofs.output.put.Given as goal

-- what was put so far, and what is left
abbrev pub invariant-loop-rest : goal.invariant-loop-rest
invariant-loop-rest g l =
    (done : List ℕ) × (l.octets ≡ done ++ l.rest) × g.W.TextOut.puts l.initial.writer done l.writer
    × (g.W.TextOut.failures l.writer ≡ g.W.TextOut.failures l.initial.writer)

abbrev pub decreases-loop-rest : goal.decreases-loop-rest
decreases-loop-rest g l = length l.rest
