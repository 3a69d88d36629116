use Rattle.std.proofs.Common.{◌≡◌, length}
use Rattle.std.specs.List.{flat_map}
use Rattle.rs_attrs.specs.Writing.{as4_of}
use Rattle.rs_attrs.proofs.writing.parts.Left.take_beside.Given as goal

abbrev pub invariant-loop-head : goal.invariant-loop-head
invariant-loop-head l = flat_map as4_of l.fn.self ≡ flat_map as4_of l.self

abbrev pub decreases-loop-head : goal.decreases-loop-head
decreases-loop-head l = length l.self
