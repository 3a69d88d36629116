use Rattle.std.proofs.Common.{◌≡◌, ◌<◌, ℕ, List, [], ◌++◌, length, Option}
use Rattle.rs_record.specs.Saying.{SaysOn}
use Rattle.rs_record.proofs.event_lines.put_parts.Given as goal

-- what was put says that a text goes on by what was done of it
abbrev pub invariant-loop-rest : goal.invariant-loop-rest
invariant-loop-rest l =
    (added : List ℕ) × (done : List ℕ) × (l.line.items ≡ l.fn.line.items ++ added) × (l.fn.text ≡ done ++ l.rest) × (0 < length l.rest)
    × ((place : List ℕ → Option ℕ) → SaysOn place [] added [] done)

abbrev pub decreases-loop-rest : goal.decreases-loop-rest
decreases-loop-rest l = length l.rest
