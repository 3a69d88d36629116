use Rattle.rs_control.specs.Courses.{Serves}
use Rattle.rs_visitors.specs.Callers.{talks_at}
use Rattle.rs_visitors.proofs.control.Control.go_on.Given as goal

abbrev pub invariant-loop-turn : goal.invariant-loop-turn
invariant-loop-turn g l = Serves (g.P.Pages.finds l.server.pages.now) (g.P.Pages.writes l.server.pages.now) l.server.config.now l.fn.self.orders (talks_at l.fn.self) l.self.orders (talks_at l.self)
