use Rattle.rs_update.proofs.Collecting.{Collected}
use Rattle.rs_update.proofs.prefixes.prefixes.Given as goal

abbrev pub invariant-loop-item : goal.invariant-loop-item
invariant-loop-item l = Collected l.field l.found.items l.item-iterator
