use Rattle.rs_packer.proofs.Denoting.{announcement_holds, announcement_has_effect}
use Rattle.rs_packer.proofs.EachOnce.{announcement_announces}
use Rattle.rs_packer.proofs.OneEffect.{announcement_has_no_other_effect}
use Rattle.rs_packer.proofs.laws.announcement_denotes.Goals as goal

pub returns-clause-holds : goal.returns-clause-holds
returns-clause-holds c = announcement_holds

pub returns-clause-announces : goal.returns-clause-announces
returns-clause-announces c = announcement_announces

pub returns-clause-effect : goal.returns-clause-effect
returns-clause-effect c = announcement_has_effect

pub returns-clause-only : goal.returns-clause-only
returns-clause-only c = announcement_has_no_other_effect
