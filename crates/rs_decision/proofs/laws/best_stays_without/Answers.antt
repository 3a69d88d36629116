use Rattle.rs_decision.proofs.Chosen.{best_stays_without}
use Rattle.rs_decision.proofs.laws.best_stays_without.Goals as goal

pub returns : goal.returns
returns c = best_stays_without
