use Rattle.std.proofs.Common.{refl}
use Rattle.rs_trace.proofs.lines.Lines.new.Goals as goal

pub returns : goal.returns
returns c = refl
