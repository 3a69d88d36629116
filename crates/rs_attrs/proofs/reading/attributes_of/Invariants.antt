use Rattle.std.proofs.Common.{drop}
use Rattle.rs_attrs.proofs.Fields.Building.{Building}
use Rattle.rs_attrs.proofs.reading.attributes_of.Given as goal

abbrev pub invariant-loop-found : goal.invariant-loop-found
invariant-loop-found l = Building l.fn.mode l.fn.kept l.heads.items l.values.items (drop l.found-index l.fn.kept)
