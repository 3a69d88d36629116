use Rattle.std.proofs.Common.{◌≡◌, ◌+◌, ◌-◌, ℕ, List, [], ◌++◌, length, true}
use Rattle.std.specs.Prelude.{if◌then◌else◌}
use Rattle.rs_trace.proofs.lines.Lines.advance.Given as goal

-- what waits is what waited at first and what was taken since
abbrev pub invariant-loop-self : goal.invariant-loop-self
invariant-loop-self g l =
    (taken : List ℕ) × g.R.TextIn.takes l.initial.reader taken l.reader
    × (l.self.rest ≡ l.initial.self.rest ++ taken)
    × (g.R.TextIn.failures l.reader ≡ g.R.TextIn.failures l.initial.reader)
    × (l.initial.self.is_over ≡ true → taken ≡ [])
    × (l.initial.self.is_over ≡ true → l.self.is_over ≡ true)
    × ((l.initial.self.is_over ≡ true → g.R.TextIn.at_end l.initial.reader) → l.self.is_over ≡ true → g.R.TextIn.at_end l.reader)

-- each round takes an octet at least, or finds the end of the text
abbrev pub decreases-loop-self : goal.decreases-loop-self
decreases-loop-self g l = (8241 - length l.self.rest) + (if l.self.is_over then 0 else 1)
