use Rattle.rs_policy.proofs.Accepted.Soundness.{config_sound}
use Rattle.rs_policy.proofs.laws.every_configuration_is_sound.Goals as goal

pub returns : goal.returns
returns c = config_sound
