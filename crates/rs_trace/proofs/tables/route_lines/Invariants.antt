use Rattle.rs_trace.proofs.TableLemmas.{AreWritten}
use Rattle.rs_trace.proofs.tables.route_lines.Given as goal

-- the routes before these have been written
abbrev pub invariant-loop-prefix : goal.invariant-loop-prefix
invariant-loop-prefix l =
    (goal.iterator-loop-prefix).can_next l.prefix-iterator ×
    (goal.iterator-loop-prefix).is_finite l.prefix-iterator ×
    AreWritten l.core l.fn.c l.name l.mode l.lines.items l.prefix-iterator
