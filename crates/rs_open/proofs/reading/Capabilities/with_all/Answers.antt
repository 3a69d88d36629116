use Rattle.std.proofs.Common.{◌∙◌, ap}
use Rattle.rs_open.specs.Triples.{row_of}
use Rattle.rs_open.specs.Walk.{triple_in, capabilities_answer}
use Rattle.rs_open.proofs.Answering.{capability_read}
use Rattle.rs_open.proofs.reading.Capabilities.with_all.Goals as goal

pub loop-capability-preserved : goal.loop-capability-preserved
loop-capability-preserved c =
    c.loop-capability.invariant
    ∙ ap (capabilities_answer c.loop-capability.found) c.in-Some.ensures.row
    ∙ capability_read c.loop-capability.found c.in_ok-found.found (triple_in c.in-Some.capability) (row_of c.in-Some.after.now) c.in_ok-found.ensures
