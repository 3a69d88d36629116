use Rattle.std.proofs.Common.{◌≡◌, ◌++◌}
use Rattle.rs_compare.specs.Differences.{entries_of}
use Rattle.rs_compare.proofs.Listed.{shown}
use Rattle.rs_compare.proofs.heard.Sent.routes.Given as goal

abbrev pub invariant-loop-prefix : goal.invariant-loop-prefix
invariant-loop-prefix l =
    (goal.iterator-loop-prefix).can_next l.prefix-iterator ×
    (goal.iterator-loop-prefix).is_finite l.prefix-iterator ×
    (entries_of l.routes.items ++ shown l.prefix-iterator ≡ shown l.self.routes.entries)
