use Rattle.std.proofs.Common.{[], nat_lt, arith}
use Rattle.std.proofs.lemmas.Bool.Decides.{nat_tests}
use Rattle.rs_outlet.specs.Decided.Due.{any_holds, due_to}
use Rattle.rs_outlet.specs.Decided.HeldBy.{held_by}
use Rattle.rs_outlet.proofs.Decided.Counting.{all_counted, none_counted}
use Rattle.rs_outlet.proofs.Decided.Decisions.{all_decided, none_decided}
use Rattle.rs_outlet.proofs.turn.decide_own.Goals as goal

pub decide_numbers-requires-clause-count : goal.decide_numbers-requires-clause-count
decide_numbers-requires-clause-count c = let s = c.args.sources.now in none_counted s.ins.now c.args.rows.now.rows.items (any_holds (held_by s))

pub returns-clause-plan : goal.returns-clause-plan
returns-clause-plan c = λ idle below.
    let s = c.args.sources.now in
    let rows = c.args.rows.now.rows.items in
    let due_at = due_to (held_by s) s.client c.args.speech in
    record {
      decided =
          all_decided s.ins.now due_at rows c.args.numbers c.decide_numbers.new.changes.items
          (c.in_ok-decide_numbers.ensures.changes [] (none_decided s.ins.now due_at rows (λ m. nat_lt m 0) c.new-changes.result.items c.new-changes.ensures.items (λ m. grind (arith, nat_tests)))) below;
      fitting = tt;
    }

pub returns-clause-count : goal.returns-clause-count
returns-clause-count c = λ below.
    let s = c.args.sources.now in
    all_counted s.ins.now c.args.rows.now.rows.items (any_holds (held_by s)) c.args.numbers c.decide_numbers.new.count below c.in_ok-decide_numbers.ensures.count
