use Rattle.rs_packer.proofs.Fitting.{announced_front_is, announced_front_is_only, withdrawn_front_is, withdrawn_front_is_only}
use Rattle.rs_packer.proofs.laws.the_longest_front_is_one.Goals as goal

pub returns-clause-announced : goal.returns-clause-announced
returns-clause-announced c = announced_front_is

pub returns-clause-announced_only : goal.returns-clause-announced_only
returns-clause-announced_only c = announced_front_is_only

pub returns-clause-withdrawn : goal.returns-clause-withdrawn
returns-clause-withdrawn c = withdrawn_front_is

pub returns-clause-withdrawn_only : goal.returns-clause-withdrawn_only
returns-clause-withdrawn_only c = withdrawn_front_is_only
