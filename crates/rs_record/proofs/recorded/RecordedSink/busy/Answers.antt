use Rattle.std.proofs.Common.{refl}
use Rattle.rs_core.specs.Drives.Steps.{Busy}
use Rattle.rs_record.proofs.Happening.{happens_on}
use Rattle.rs_record.proofs.recorded.RecordedSink.busy.Goals as goal

pub returns : goal.returns
returns g c = happens_on g.L.Link.happens g.T.Tape.is_over g.T.Tape.holds _ _ _ _ _ c.args.self.now.recorder.now c.args.self.now.tape.now (Busy c.args.c) (λ n steps. refl) c.busy.ensures
