use Rattle.std.proofs.Common.{List}
use Rattle.rs_core.specs.Run.Agreeing.{Agrees}
use Rattle.rs_core.specs.Run.Moves.{Move}
use Rattle.rs_core.specs.Run.Meaning.{table}
use Rattle.rs_page_parts.proofs.Firsts.{AreLeft}
use Rattle.rs_shown.proofs.core_tables.CoreTables.first_received.Given as goal

-- what is left is the table, from the number on
abbrev pub invariant-loop-prefix : goal.invariant-loop-prefix
invariant-loop-prefix l = (run : List Move) → Agrees l.self.0.now run → AreLeft (table run l.member) l.at l.prefix-iterator
