use Rattle.std.proofs.Common.{refl, length}
use Rattle.rs_core.specs.Drives.Steps.{Offer}
use Rattle.rs_record.specs.Accounts.{answered}
use Rattle.rs_record.proofs.Happening.{happens_more}
use Rattle.rs_record.proofs.recorded.RecordedSink.offer.Goals as goal

pub returns-clause-step : goal.returns-clause-step
returns-clause-step g c =
    let now = c.offered.ensures in
    happens_more g.L.Link.happens g.T.Tape.is_over g.T.Tape.holds _ _ _ _ _ c.args.self.now.recorder.now c.offered.new.self c.args.self.now.tape.now (Offer c.args.c c.args.octets.now c.offer-answer.result)
    (λ n pending. answered n c.args.c (length c.args.octets.now) c.offer-answer.result pending) (λ n steps. refl) c.offer-answer.ensures.step now.names now.pending now.fine now.says
