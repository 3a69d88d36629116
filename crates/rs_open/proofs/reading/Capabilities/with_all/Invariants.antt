use Rattle.std.proofs.Common.{◌≡◌, length}
use Rattle.rs_open.specs.Triples.{row_of}
use Rattle.rs_open.specs.Walk.{capabilities_answer}
use Rattle.rs_open.proofs.reading.Capabilities.with_all.Given as goal

abbrev pub invariant-loop-capability : goal.invariant-loop-capability
invariant-loop-capability l = capabilities_answer l.initial.found (row_of l.value) ≡ capabilities_answer l.found (row_of l.rest)

abbrev pub decreases-loop-capability : goal.decreases-loop-capability
decreases-loop-capability l = length l.rest
