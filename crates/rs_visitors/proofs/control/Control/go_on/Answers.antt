use Rattle.std.proofs.Common.{sym, subst}
use Rattle.rs_control.specs.Courses.{Serves, Nobody, ComeAndGo}
use Rattle.rs_control.proofs.Courses.{served}
use Rattle.rs_visitors.specs.Callers.{talks_at}
use Rattle.rs_visitors.proofs.control.Control.go_on.Goals as goal

pub loop-turn-init : goal.loop-turn-init
loop-turn-init g c =
    subst (λ o. Serves (g.P.Pages.finds c.args.server.now.pages.now) (g.P.Pages.writes c.args.server.now.pages.now) c.args.server.now.config.now c.args.self.now.orders (talks_at c.args.self.now) o (talks_at c.let_in.new.self)) (sym c.let_in.ensures.orders)
    (ComeAndGo _ _ _ _ _ (Nobody c.args.self.now.orders (talks_at c.args.self.now)) c.let_in.ensures.talks)

pub loop-turn-preserved : goal.loop-turn-preserved
loop-turn-preserved g c = served _ _ _ _ _ _ _ _ _ c.loop-turn.invariant c.go_on_with-is_unfinished.ensures
