use Rattle.std.proofs.Common.{ℕ, List, length}
use Rattle.rs_attrs.specs.Effects.{MeansTable}
use Rattle.rs_compare.specs.Heard.{table_in}
use Rattle.rs_replay.specs.Sendings.{updates_since}
use Rattle.rs_replay.specs.Taking.{HearsUpTo}
use Rattle.rs_replay.proofs.connection.hear_messages.Given as goal

-- the messages of a front were heard
abbrev pub invariant-loop-rest : goal.invariant-loop-rest
invariant-loop-rest l = (before : List (List ℕ)) → MeansTable (updates_since before) l.mode (table_in l.fn.sent) → HearsUpTo l.mode before l.octets l.rest (table_in l.sent)

abbrev pub decreases-loop-rest : goal.decreases-loop-rest
decreases-loop-rest l = length l.rest
