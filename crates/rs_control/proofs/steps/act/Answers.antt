use Rattle.std.proofs.Common.{subst, sym}
use Rattle.rs_control.specs.declared.lines.Asked.{Asked}
use Rattle.rs_control.specs.Lines.{meaning_of}
use Rattle.rs_control.specs.Steps.{ComesOf}
use Rattle.rs_control.proofs.steps.act.Goals as goal

pub returns-in-Order-clause-ok : goal.returns-in-Order-clause-ok
returns-in-Order-clause-ok g c =
    let By : Asked → Type 0 = λ asked. ComesOf (g.P.Pages.finds c.args.server.now.pages.now) c.args.server.now.config.now (meaning_of asked) c.args.orders.now c.put.new.orders c.put.result in
    subst By (sym c.in-Order.is) c.put.ensures
