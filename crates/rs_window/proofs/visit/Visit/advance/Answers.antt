use Rattle.std.proofs.Common.{IfSome, sym, subst}
use Rattle.rs_window.specs.Visits.{GoesOn}
use Rattle.rs_window.proofs.visit.Visit.advance.Goals as goal

pub returns-in-Some-clause-goes_on : goal.returns-in-Some-clause-goes_on
returns-in-Some-clause-goes_on g c empty =
    subst (λ o. IfSome o (λ page. GoesOn (g.P.Pages.writes c.args.pages.now page) c.args.self.now c.go_on.new.self)) (sym c.in-Some.is) c.go_on.ensures
