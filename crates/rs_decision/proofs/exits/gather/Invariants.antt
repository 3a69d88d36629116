use Rattle.std.proofs.Common.{◌≡◌, ◌≤◌, map, take}
use Rattle.rs_decision.specs.Exits.{exit_of}
use Rattle.rs_decision.proofs.Grouped.{level_of}
use Rattle.rs_decision.proofs.exits.gather.Given as goal

abbrev pub invariant-loop-rank : goal.invariant-loop-rank
invariant-loop-rank l = record {
  within : l.count ≤ l.rank-index;
  listed : take l.count l.exits ≡ map exit_of (level_of (take l.rank-index l.ranks) l.level);
}
