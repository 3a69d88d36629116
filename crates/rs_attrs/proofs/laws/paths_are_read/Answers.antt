use Rattle.rs_attrs.proofs.OneMeaning.{paths_are_read}
use Rattle.rs_attrs.proofs.laws.paths_are_read.Goals as goal

pub returns : goal.returns
returns c = paths_are_read
