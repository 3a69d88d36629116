use Rattle.std.proofs.Common.{length}
use Rattle.rs_control.proofs.lines.+unspaced.Given as goal

abbrev pub decreases-unspaced : goal.decreases-unspaced
decreases-unspaced l = length l.text.now
