use Rattle.std.proofs.Common.{◌∙◌, ap}
use Rattle.std.proofs.lemmas.Bool.{eq-eqb}
use Rattle.rs_open.specs.Triples.{row_of}
use Rattle.rs_open.specs.Walk.{triple_in, parameters_answer}
use Rattle.rs_open.proofs.Answering.{parameter_read}
use Rattle.rs_open.proofs.reading.read_parameters.Goals as goal

pub loop-parameter-preserved : goal.loop-parameter-preserved
loop-parameter-preserved c =
    c.loop-parameter.invariant
    ∙ ap (parameters_answer c.loop-parameter.found) c.in-Some.ensures.row
    ∙ parameter_read c.loop-parameter.found c.in_ok-found.found (triple_in c.in-Some.parameter) (row_of c.in-Some.after.now)
    (eq-eqb _ _ c.if-parameter-ne-CAPABILITIES.false) c.in_ok-found.ensures
