use Rattle.rs_attrs.proofs.OneMeaning.{fields_mean_one}
use Rattle.rs_attrs.proofs.laws.fields_mean_one.Goals as goal

pub returns : goal.returns
returns c = fields_mean_one
