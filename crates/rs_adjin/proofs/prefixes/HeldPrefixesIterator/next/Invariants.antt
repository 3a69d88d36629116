use Rattle.std.proofs.Common.{◌≡◌, length}
use Rattle.std.specs.List.{filter}
use Rattle.rs_adjin.specs.Held.{has_number}
use Rattle.rs_adjin.proofs.prefixes.HeldPrefixesIterator.next.Given as goal

abbrev pub invariant-loop-prefix : goal.invariant-loop-prefix
invariant-loop-prefix l = filter (λ e. has_number l.self-inside.held.now e.1) l.self-inside.numbers ≡ l.fn.self

abbrev pub decreases-loop-prefix : goal.decreases-loop-prefix
decreases-loop-prefix l = length l.self-inside.numbers
