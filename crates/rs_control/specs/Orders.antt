-- The orders that are due to the loop of the server.
use Rattle.std.specs.Prelude.{◌≡◌, ◌≤◌, ◌<◌, ◌⊎◌, ℕ, true, List, length}
use Rattle.rs_control.specs.declared.order.Order.{Order}
use Rattle.rs_control.specs.declared.orders.Orders.{Orders}

-- all orders that were put and not given, in their order
abbrev pub due : Orders → List Order
due o = o.waiting.items

abbrev pub given_of : Orders → ℕ
given_of o = o.given

-- no order is taken: as many wait as may, the end was ordered, or the numbers are used up
abbrev pub IsShut : Orders → Type 0
IsShut o = (16 ≤ length o.waiting.items) ⊎ (o.is_ending ≡ true) ⊎ (18446744073709551615 ≤ o.put)

-- a reload was given of which it is not known what came of it
abbrev pub IsReloading : Orders → Type 0
IsReloading o = o.told < o.reloads
