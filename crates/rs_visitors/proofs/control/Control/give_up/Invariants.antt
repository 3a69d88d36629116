use Rattle.std.proofs.Common.{◌≡◌}
use Rattle.rs_visitors.proofs.control.Control.give_up.Given as goal

abbrev pub invariant-loop-key : goal.invariant-loop-key
invariant-loop-key l = l.self.orders ≡ l.fn.self.orders
