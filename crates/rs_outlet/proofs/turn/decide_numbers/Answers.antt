use Rattle.std.proofs.Common.{◌≡◌, ◌≤◌, ◌++◌, Bool, true, false, cond, arith, rules, subst}
use Rattle.rs_outlet.specs.Decided.Counted.{is_counted_below}
use Rattle.rs_outlet.specs.Decided.Due.{any_holds, due_to}
use Rattle.rs_outlet.specs.Decided.HeldBy.{held_by}
use Rattle.rs_outlet.specs.Views.{IsNumberOf}
use Rattle.rs_outlet.proofs.Decided.Counting.{next_counted}
use Rattle.rs_outlet.proofs.Decided.Decisions.{decided_behind, next_decided}
use Rattle.rs_outlet.proofs.turn.decide_numbers.Goals as goal

at_most_one : (b : Bool) → cond b 1 0 ≤ 1
at_most_one true = omega arith
at_most_one false = omega arith

pub loop-number-preserved : goal.loop-number-preserved
loop-number-preserved c =
    let s = c.args.sources.now in
    let rows = c.args.rows.now.rows.items in
    let due_at = due_to (held_by s) s.client c.args.speech in
    let n = c.loop-number.number in
    let one : c.from.result ≡ cond c.in_ok-decided.decided 1 0 = search rules in
    let inv = c.loop-number.invariant in
    let was = c.loop-number.changes.items in
    record {
      within = omega (arith, c.loop-number-test.true);
      changes = λ front h.
          next_decided s.ins.now due_at rows n (front ++ was) _ (inv.changes front h)
          (decided_behind s.ins.now due_at rows front was _ n c.in_ok-decided.ensures.changes);
      choices = c.in_ok-decided.ensures.choices;
      memo = c.in_ok-decided.ensures.memo;
      most = omega (arith, inv.most, at_most_one c.in_ok-decided.decided, one);
      count =
          next_counted s.ins.now rows (any_holds (held_by s)) n c.loop-number.count c.from.result c.in_ok-decided.decided one
          c.in_ok-decided.ensures.free c.in_ok-decided.ensures.standing inv.count;
    }

pub returns-clause-count : goal.returns-clause-count
returns-clause-count c =
    let s = c.args.sources.now in
    let full : c.loop-number.number ≡ c.args.end = omega (arith, c.loop-number-test.false, c.loop-number.auto.number-end, c.loop-number.invariant.within) in
    subst (λ n. IsNumberOf (is_counted_below s.ins.now c.args.rows.now.rows.items (any_holds (held_by s)) n) c.loop-number.count) full c.loop-number.invariant.count
