use Rattle.std.proofs.Common.{refl}
use Rattle.rs_live.specs.declared.ports.Line.TheVariants.{Begin, Busy, Disabled, Stranger, Close, Lost, Memory, Rules, File}
use Rattle.rs_shown.proofs.tally.Tally.new.Goals as goal

pub returns : goal.returns
returns c (Begin d) = refl
returns c (Busy d) = refl
returns c (Disabled d) = refl
returns c Stranger = refl
returns c (Close d) = refl
returns c (Lost d) = refl
returns c (Memory d) = refl
returns c (Rules answer) = refl
returns c (File fault) = refl
