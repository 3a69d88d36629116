use Rattle.rs_decision.proofs.Chosen.{best_is_unbeaten}
use Rattle.rs_decision.proofs.laws.best_is_unbeaten.Goals as goal

pub returns : goal.returns
returns c = best_is_unbeaten
