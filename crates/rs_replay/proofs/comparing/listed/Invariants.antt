use Rattle.std.proofs.Common.{◌≡◌, ◌++◌}
use Rattle.rs_compare.specs.Differences.{entries_of}
use Rattle.rs_replay.proofs.comparing.listed.Given as goal

-- what was listed, and what is left
abbrev pub invariant-loop-prefix : goal.invariant-loop-prefix
invariant-loop-prefix l =
    (goal.iterator-loop-prefix).can_next l.prefix-iterator ×
    (goal.iterator-loop-prefix).is_finite l.prefix-iterator ×
    (entries_of l.listed.items ++ l.prefix-iterator ≡ l.fn.routes)
