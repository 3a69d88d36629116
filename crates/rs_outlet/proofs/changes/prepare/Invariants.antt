use Rattle.std.proofs.Common.{◌≡◌, take}
use Rattle.rs_outlet.specs.Inside.{HaveRows}
use Rattle.rs_outlet.proofs.changes.prepare.Given as goal

abbrev pub invariant-loop-index : goal.invariant-loop-index
invariant-loop-index l = record {
  rows : l.rows.rows.items ≡ l.fn.rows.rows.items;
  used : l.rows.used ≡ l.fn.rows.used;
  prepared : HaveRows (take l.index l.changes) l.rows.rows;
}
