use Rattle.std.proofs.Common.{◌≡◌, length}
use Rattle.rs_open.specs.Triples.{row_of}
use Rattle.rs_open.specs.Walk.{parameters_answer}
use Rattle.rs_open.proofs.reading.read_parameters.Given as goal

abbrev pub invariant-loop-parameter : goal.invariant-loop-parameter
invariant-loop-parameter l = parameters_answer l.initial.found (row_of l.parameters) ≡ parameters_answer l.found (row_of l.rest)

abbrev pub decreases-loop-parameter : goal.decreases-loop-parameter
decreases-loop-parameter l = length l.rest
