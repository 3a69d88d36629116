use Rattle.std.proofs.Common.{◌+◌, ◌∙◌, Option, ap, arith}
use Rattle.std.specs.Prelude.{List, count_by, is_some}
use Rattle.rs_rows.specs.Rows.{Row}
use Rattle.rs_outlet.proofs.Pending.Withdrawals.{one_more_row, rows_at_most}
use Rattle.rs_outlet.proofs.table.Rows.put.Goals as goal

pub overflow_add-self : goal.overflow_add-self
overflow_add-self c = omega (arith, rows_at_most c.args.self.now.rows.items, c.args.self.now.counted, c.count-count.ensures.rows, c.count-count.ensures.most)

pub invariant_of-self : goal.invariant_of-self
invariant_of-self c =
    let rows = c.args.self.now.rows.items in
    record {
      counted = ap (λ (xs : List (Option Row)). count_by is_some xs) c.put.ensures.rows
          ∙ one_more_row rows c.args.number _ c.requires.number c.requires.free ∙ ap (λ n. n + 1) c.args.self.now.counted;
    }
