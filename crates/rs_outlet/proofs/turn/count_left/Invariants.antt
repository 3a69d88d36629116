use Rattle.std.proofs.Common.{◌≡◌, ◌≤◌, take}
use Rattle.std.specs.Prelude.{count_by}
use Rattle.rs_outlet.specs.Decided.Counted.{is_left}
use Rattle.rs_outlet.specs.Decided.Due.{any_holds}
use Rattle.rs_outlet.specs.Decided.HeldBy.{held_by}
use Rattle.rs_outlet.specs.Views.{HaveNumbers}
use Rattle.rs_outlet.proofs.turn.count_left.Given as goal

abbrev pub invariant-loop-number : goal.invariant-loop-number
invariant-loop-number l = record {
  most : l.count ≤ l.number-index;
  count : HaveNumbers l.touched l.sources.ins.now → l.count ≡ count_by (is_left l.rows.rows.items (any_holds (held_by l.sources))) (take l.number-index l.touched);
}
