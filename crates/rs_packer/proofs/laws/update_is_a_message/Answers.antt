use Rattle.std.proofs.Common.{refl}
use Rattle.rs_packer.proofs.UpdateMessages.{update_is_message}
use Rattle.rs_packer.proofs.laws.update_is_a_message.Goals as goal

pub returns-clause-message : goal.returns-clause-message
returns-clause-message c = update_is_message

pub returns-clause-body : goal.returns-clause-body
returns-clause-body c withdrawn attributes nlri = refl
