-- The orders that wait at a control socket.
use Rattle.std.specs.Prelude.{List}
use Rattle.rs_control.specs.declared.order.Order.{Order}
use Rattle.rs_control.specs.Orders.{due}
use Rattle.rs_visitors.specs.declared.control.Control.{Control}

-- all that were put and not given, in their order
abbrev pub due_at : Control → List Order
due_at control = due control.orders
