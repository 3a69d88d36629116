use Rattle.std.proofs.Common.{arith}
use Rattle.rs_core.specs.Drives.Closing.{may_close}
use Rattle.rs_core.proofs.Drives.Sets.{without_bit}
use Rattle.rs_core.proofs.driving.closing.MayClose.remove.Goals as goal

pub returns : goal.returns
unfolding may_close
returns c = without_bit c.args.self.now.words c.args.c (omega (arith, c.requires))
