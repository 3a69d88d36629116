use Rattle.std.proofs.Common.{length}
use Rattle.rs_streams.proofs.file_watch.+fit.Given as goal

abbrev pub decreases-fit : goal.decreases-fit
decreases-fit l = length l.found.now
