use Rattle.rs_packer.proofs.Denoting.{withdrawal_holds, withdrawal_has_effect}
use Rattle.rs_packer.proofs.EachOnce.{withdrawal_withdraws}
use Rattle.rs_packer.proofs.OneEffect.{withdrawal_has_no_other_effect}
use Rattle.rs_packer.proofs.laws.withdrawal_denotes.Goals as goal

pub returns-clause-holds : goal.returns-clause-holds
returns-clause-holds c = withdrawal_holds

pub returns-clause-withdraws : goal.returns-clause-withdraws
returns-clause-withdraws c = withdrawal_withdraws

pub returns-clause-effect : goal.returns-clause-effect
returns-clause-effect c = withdrawal_has_effect

pub returns-clause-only : goal.returns-clause-only
returns-clause-only c = withdrawal_has_no_other_effect
