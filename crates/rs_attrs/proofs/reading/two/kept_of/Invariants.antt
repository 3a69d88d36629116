use Rattle.std.proofs.Common.{◌≡◌, drop}
use Rattle.rs_attrs.specs.Walking.{noted}
use Rattle.rs_attrs.proofs.reading.two.kept_of.Given as goal

-- the type isn't among those that were passed
abbrev pub invariant-loop-found : goal.invariant-loop-found
invariant-loop-found l = noted (drop l.found-index l.kept) l.kind ≡ noted l.fn.kept l.kind
