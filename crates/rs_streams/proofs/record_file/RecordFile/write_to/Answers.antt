use Rattle.rs_streams.proofs.Printing.{goes_none, goes_then}
use Rattle.rs_streams.proofs.record_file.RecordFile.write_to.Goals as goal

pub loop-init : goal.loop-init
loop-init g c = record { goes = goes_none g.S.Stream.takes _ _ }

pub loop-preserved : goal.loop-preserved
loop-preserved g c = record { goes = goes_then g.S.Stream.takes _ _ _ _ _ _ c.loop.invariant.goes c.step.ensures.goes }

pub returns-in_err-step-clause-goes : goal.returns-in_err-step-clause-goes
returns-in_err-step-clause-goes g c = goes_then g.S.Stream.takes _ _ _ _ _ _ c.loop.invariant.goes c.step.ensures.goes

pub returns-then-len-most-clause-goes : goal.returns-then-len-most-clause-goes
returns-then-len-most-clause-goes g c = goes_then g.S.Stream.takes _ _ _ _ _ _ c.loop.invariant.goes c.step.ensures.goes
