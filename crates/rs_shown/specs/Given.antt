-- Which orders wait at the control socket.
use Rattle.std.specs.Prelude.{List, [], Option, Some, None}
use Rattle.rs_control.specs.declared.order.Order.{Order}
use Rattle.rs_visitors.specs.Dues.{due_at}
use Rattle.rs_visitors.specs.declared.control.Control.{Control}
use Rattle.rs_shown.specs.declared.shown.Shown.{Shown}

-- what waits at the control socket, where there is one
abbrev pub due_by : Option Control → List Order
due_by None = []
due_by (Some control) = due_at control

abbrev pub due_to : Shown → List Order
due_to shown = due_by shown.control
