use Rattle.std.proofs.Common.{◌≡◌, ℕ, List, None, subst}
use Rattle.rs_core.specs.Drives.Steps.{octets_of}
use Rattle.rs_record.specs.Accounts.{newest}
use Rattle.rs_record.specs.Named.{count_of}
use Rattle.rs_record.specs.Records.{AddsLines}
use Rattle.rs_record.proofs.Happening.{happens_next}
use Rattle.rs_record.proofs.recorded.RecordedSource.next.Goals as goal

pub returns : goal.returns
returns g c =
    let event = c.next-event.result in
    let mid = c.finish.new.self in
    let new = c.begin.new.self in
    happens_next g.L.Link.happens g.T.Tape.is_over g.T.Tape.holds _ _ _ _ _ c.args.self.now.recorder.now mid new c.args.self.now.tape.now c.finish.new.tape event
    (octets_of event c.next-event.new.piece (g.L.Link.text c.next-event.new.self)) c.next-event.ensures c.finish.ensures.names c.finish.ensures.line c.finish.ensures.closes c.begin.ensures.names
    (subst (λ (text : List ℕ). new.pending ≡ (newest (count_of mid.names.names) event (octets_of event c.next-event.new.piece text)).pending) c.rules.ensures c.begin.ensures.pending)
    c.begin.ensures.fine
    (subst (λ (text : List ℕ). new.fault ≡ None → AddsLines mid.names.names mid.line.items new.line.items (newest (count_of mid.names.names) event (octets_of event c.next-event.new.piece text)).said) c.rules.ensures c.begin.ensures.says)
