use Rattle.rs_decision.proofs.Chosen.{best_ignores_order}
use Rattle.rs_decision.proofs.laws.best_ignores_order.Goals as goal

pub returns : goal.returns
returns c = best_ignores_order
