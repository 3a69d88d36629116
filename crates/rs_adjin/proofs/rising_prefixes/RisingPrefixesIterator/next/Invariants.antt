use Rattle.std.proofs.Common.{◌≡◌, ◌++◌, length}
use Rattle.rs_adjin.specs.PrefixTrees.{entries_of}
use Rattle.rs_adjin.proofs.rising_prefixes.RisingPrefixesIterator.next.Given as goal

abbrev pub invariant-loop-prefix : goal.invariant-loop-prefix
invariant-loop-prefix l = l.self-inside.here ++ entries_of l.self-inside.trees.now ≡ l.fn.self

abbrev pub decreases-loop-prefix : goal.decreases-loop-prefix
decreases-loop-prefix l = length l.self-inside.trees.now
