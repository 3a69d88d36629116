use Rattle.std.proofs.Common.{◌∙◌, ap}
use Rattle.rs_adjin.specs.Table.{has_prefix_of}
use Rattle.rs_adjin.proofs.table.holds.Goals as goal

pub returns-in-Some : goal.returns-in-Some
returns-in-Some c = c.has.ensures ∙ ap (has_prefix_of c.args.held.now) c.in-Some.ensures

pub returns-in-None : goal.returns-in-None
returns-in-None c = ap (has_prefix_of c.args.held.now) c.in-None.ensures
