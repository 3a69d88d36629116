use Rattle.std.proofs.Common.{refl}
use Rattle.rs_core.specs.Drives.Steps.{Memory}
use Rattle.rs_record.specs.Accounts.{refused}
use Rattle.rs_record.proofs.Happening.{happens_more}
use Rattle.rs_record.proofs.recorded.RecordedSink.memory.Goals as goal

pub returns : goal.returns
returns g c =
    let now = c.refused.ensures in
    happens_more g.L.Link.happens g.T.Tape.is_over g.T.Tape.holds _ _ _ _ _ c.args.self.now.recorder.now c.refused.new.self c.args.self.now.tape.now (Memory c.args.c)
    (λ n pending. refused n c.args.c pending) (λ n steps. refl) c.memory.ensures now.names now.pending now.fine now.says
