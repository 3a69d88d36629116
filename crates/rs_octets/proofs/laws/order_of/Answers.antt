use Rattle.rs_octets.specs.PrefixOrder.{prefix_order_total, prefix_order_exact}
use Rattle.rs_octets.proofs.laws.order_of.Goals as goal

pub returns-clause-total : goal.returns-clause-total
returns-clause-total c = prefix_order_total

pub returns-clause-exact : goal.returns-clause-exact
returns-clause-exact c = prefix_order_exact
