use Rattle.std.proofs.Common.{◌≡◌}
use Rattle.rs_control.specs.Courses.{AreOfThese}
use Rattle.rs_visitors.specs.Callers.{talks_at}
use Rattle.rs_visitors.proofs.control.Control.let_in.Given as goal

abbrev pub invariant-loop : goal.invariant-loop
invariant-loop l = record { orders : l.self.orders ≡ l.fn.self.orders; talks : AreOfThese (talks_at l.fn.self) (talks_at l.self) }
