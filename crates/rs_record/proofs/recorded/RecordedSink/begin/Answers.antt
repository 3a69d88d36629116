use Rattle.std.proofs.Common.{refl}
use Rattle.rs_core.specs.Drives.Steps.{Begin}
use Rattle.rs_record.proofs.Happening.{happens_on}
use Rattle.rs_record.proofs.recorded.RecordedSink.begin.Goals as goal

pub returns : goal.returns
returns g c = happens_on g.L.Link.happens g.T.Tape.is_over g.T.Tape.holds _ _ _ _ _ c.args.self.now.recorder.now c.args.self.now.tape.now (Begin c.args.c) (λ n steps. refl) c.begin.ensures
