use Rattle.std.proofs.Common.{rules, ◌≡◌, subst, None}
use Rattle.rs_record.specs.Accounts.{failing, lost, room_said}
use Rattle.rs_record.specs.Named.{count_of}
use Rattle.rs_record.specs.Records.{AddsLines}
use Rattle.rs_record.specs.declared.recorder.Pending.{Pending}
use Rattle.rs_record.proofs.Recording.{adds_both}
use Rattle.rs_record.proofs.recorder.Recorder.offered.Goals as goal

pub returns-in-None-clause-says : goal.returns-in-None-clause-says
returns-in-None-clause-says c =
    let old = c.args.self.now in
    let mid = c.close_room.new.self in
    let failed : c.args.answer ≡ None = search rules in
    rw failed (adds_both old.names mid.names old.line.items mid.line.items c.lose.new.self.line.items (room_said (count_of old.names.names) (failing old.pending))
    (λ names. lost (count_of names) c.args.c) mid.fault c.lose.new.self.fault c.close_room.ensures.names c.lose.ensures.fine
    (λ none. subst (λ (p : Pending). AddsLines old.names.names old.line.items mid.line.items (room_said (count_of old.names.names) p)) c.fail-self.ensures (c.close_room.ensures.says none)) c.lose.ensures.says)
