use Rattle.rs_attrs.proofs.OneMeaning.{fields_are_read}
use Rattle.rs_attrs.proofs.laws.fields_are_read.Goals as goal

pub returns : goal.returns
returns c = fields_are_read
