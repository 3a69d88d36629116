use Rattle.rs_update.proofs.OneEffect.{have_effects, have_one_effect}
use Rattle.rs_update.proofs.laws.bodies_have_one_effect.Goals as goal

pub returns-clause-there_is : goal.returns-clause-there_is
returns-clause-there_is c = have_effects

pub returns-clause-no_other : goal.returns-clause-no_other
returns-clause-no_other c = have_one_effect
