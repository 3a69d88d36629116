use Rattle.std.proofs.Common.{◌≡◌, ◌++◌, List, map}
use Rattle.rs_core.specs.Run.Agreeing.{Agrees}
use Rattle.rs_core.specs.Run.Candidates.{candidates_in}
use Rattle.rs_core.specs.Run.Moves.{Move}
use Rattle.rs_page_parts.specs.Holders.{holding}
use Rattle.rs_shown.specs.Shown.{holding_of}
use Rattle.rs_shown.proofs.core_tables.CoreTablesTables.holders_of.Given as goal

-- those that are left complete the whole
abbrev pub invariant-loop-candidate : goal.invariant-loop-candidate
invariant-loop-candidate l = (run : List Move) → Agrees l.self.0.now run → map holding l.held.items ++ map holding_of l.candidate-iterator ≡ map holding_of (candidates_in run l.prefix)
