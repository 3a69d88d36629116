use Rattle.std.proofs.Common.{◌≡◌, ◌∙◌, Option, ap, arith}
use Rattle.std.specs.Prelude.{List, count_by, is_some}
use Rattle.rs_rows.specs.Cells.{taken_of}
use Rattle.rs_rows.specs.Rows.{Row}
use Rattle.rs_outlet.proofs.Pending.Withdrawals.{one_if, row_taken, taken_seen}
use Rattle.rs_outlet.proofs.table.Rows.take.Goals as goal

pub overflow_sub-self : goal.overflow_sub-self
overflow_sub-self c =
    let was = taken_of c.take-taken.result in
    let taken = row_taken c.args.self.now.rows.items c.args.number was c.requires.number c.take-taken.ensures.was in
    let one : ◌≡◌ (one_if (is_some was)) 1 = ap one_if (taken_seen c.attrs.result _ was c.is_some.result c.attrs.ensures c.is_some.ensures ∙ c.if-is_some.true) in
    omega (arith, taken, one, c.args.self.now.counted)

pub invariant_of-self : goal.invariant_of-self
invariant_of-self c =
    let was = taken_of c.take-taken.result in
    let taken = row_taken c.args.self.now.rows.items c.args.number was c.requires.number c.take-taken.ensures.was in
    let one : ◌≡◌ (one_if (is_some was)) 1 = ap one_if (taken_seen c.attrs.result _ was c.is_some.result c.attrs.ensures c.is_some.ensures ∙ c.if-is_some.true) in
    record {
      counted = ap (λ (xs : List (Option Row)). count_by is_some xs) c.take-taken.ensures.rows ∙ omega (arith, taken, one, c.args.self.now.counted);
    }

pub invariant_of-self-else-is_some : goal.invariant_of-self-else-is_some
invariant_of-self-else-is_some c =
    let was = taken_of c.take-taken.result in
    let taken = row_taken c.args.self.now.rows.items c.args.number was c.requires.number c.take-taken.ensures.was in
    let none : ◌≡◌ (one_if (is_some was)) 0 = ap one_if (taken_seen c.attrs.result _ was c.is_some.result c.attrs.ensures c.is_some.ensures ∙ c.if-is_some.false) in
    record {
      counted = ap (λ (xs : List (Option Row)). count_by is_some xs) c.take-taken.ensures.rows ∙ omega (arith, taken, none, c.args.self.now.counted);
    }
