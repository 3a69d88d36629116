use Rattle.std.proofs.Common.{◌≡◌, ◌<◌, cond, length, arith, rules}
use Rattle.rs_outlet.specs.Decided.Counted.{is_left}
use Rattle.rs_outlet.specs.Decided.Due.{any_holds}
use Rattle.rs_outlet.specs.Decided.HeldBy.{held_by}
use Rattle.rs_outlet.proofs.Decided.Left.{at_most_one, numbered_at, one_counted}
use Rattle.rs_outlet.proofs.turn.count_left.Goals as goal

pub loop-number-preserved : goal.loop-number-preserved
loop-number-preserved c =
    let es = c.args.touched.now in
    let i = c.loop-number.number-index in
    let e = c.loop-number-item.result in
    let below : i < length es = omega arith in
    let one : c.from-count.result ≡ cond c.is_left.result 1 0 = search rules in
    record {
      most = omega (arith, c.loop-number.invariant.most, at_most_one c.is_left.result, one);
      count = λ are.
          one_counted (is_left c.args.rows.now.rows.items (any_holds (held_by c.args.sources.now))) es i e _ _ c.is_left.result below c.loop-number-item.is
          (c.is_left.ensures e.1 (numbered_at c.args.sources.now.ins.now es i e are below c.loop-number-item.is)) one (c.loop-number.invariant.count are);
    }
