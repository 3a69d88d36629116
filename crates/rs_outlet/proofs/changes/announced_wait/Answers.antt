use Rattle.std.proofs.Common.{Some, sym, subst}
use Rattle.std.specs.Arc.{arc_value}
use Rattle.rs_rows.specs.Cells.{taken_of}
use Rattle.rs_outlet.specs.Pending.Owed.{IsOwed}
use Rattle.rs_outlet.proofs.Pending.Owing.{owed_nothing}
use Rattle.rs_outlet.proofs.changes.announced_wait.Goals as goal

pub returns-in_err-told-clause-owed : goal.returns-in_err-told-clause-owed
returns-in_err-told-clause-owed c =
    let due = arc_value c.args.due.now in
    let told = taken_of c.args.told in
    let r = c.from_residual.ensures in
    subst (λ o. IsOwed o (Some due) told c.args.marked) (sym r) (owed_nothing due told c.args.marked c.in_err-told.ensures)
