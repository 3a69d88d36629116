use Rattle.rs_control.specs.Courses.{Course}
use Rattle.rs_visitors.proofs.caller.Caller.go_on.Given as goal

abbrev pub invariant-loop : goal.invariant-loop
invariant-loop g l = Course (g.P.Pages.finds l.server.pages.now) (g.P.Pages.writes l.server.pages.now) l.server.config.now l.fn.orders l.fn.self.talk l.orders l.self.talk
