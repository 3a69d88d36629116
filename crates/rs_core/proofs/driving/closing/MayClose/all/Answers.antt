use Rattle.rs_core.specs.Drives.Closing.{may_close}
use Rattle.rs_core.proofs.Drives.Sets.{all_set}
use Rattle.rs_core.proofs.driving.closing.MayClose.all.Goals as goal

pub returns : goal.returns
unfolding may_close
returns c = all_set
