use Rattle.std.proofs.Common.{List, ◌++◌, ◌+◌, length}
use Rattle.rs_octets.specs.Prefixes.{Prefix}
use Rattle.rs_compare.specs.declared.compared.Kind.{Kind}
use Rattle.rs_compare.specs.Differences.{entries_of, reports_of}
use Rattle.rs_compare.specs.Merging.{Merges}
use Rattle.rs_compare.proofs.compared.compare.Given as goal

-- what is found of the rest goes on from what was found so far
abbrev pub invariant-loop-step : goal.invariant-loop-step
invariant-loop-step l =
    (found : List (Prefix × Kind)) → Merges (entries_of l.due) (entries_of l.sent) found
    → Merges (entries_of l.fn.due) (entries_of l.fn.sent) (reports_of l.found.items ++ found)

abbrev pub decreases-loop-step : goal.decreases-loop-step
decreases-loop-step l = length l.due + length l.sent
