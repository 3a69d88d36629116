use Rattle.std.proofs.Common.{sym, subst}
use Rattle.std.specs.Prelude.{IfSome}
use Rattle.rs_control.specs.Talks.{GoesOn, Pays}
use Rattle.rs_control.proofs.talk.Talk.advance.Goals as goal

pub returns-in-Some-clause-goes_on : goal.returns-in-Some-clause-goes_on
returns-in-Some-clause-goes_on g c empty =
    subst (λ o. IfSome o (λ page. GoesOn (g.P.Pages.writes c.args.server.now.pages.now page) c.args.self.now c.go_on.new.self)) (sym c.in-Some.is) c.go_on.ensures

pub returns-in-Some-owed-clause-pays : goal.returns-in-Some-owed-clause-pays
returns-in-Some-owed-clause-pays g c empty none =
    subst (λ o. IfSome o (λ owed. Pays c.args.orders.now owed c.args.self.now c.pay.new.self)) (sym c.in-Some-owed.is) c.pay.ensures
