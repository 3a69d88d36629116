use Rattle.std.proofs.Common.{rules}
use Rattle.rs_record.proofs.Recording.{closes_faulty, closes_taken}
use Rattle.rs_record.proofs.recorder.Recorder.finish.Goals.{then-is_none, else-is_none}
use Rattle.rs_record.proofs.recorder.Recorder.finish.Goals as goal

pub returns-clause-closes : goal.returns-clause-closes
returns-clause-closes g c = λ went held steps k.
    let old = c.args.self.now in
    let mid = c.close_room.new.self in
    rw c.reset.ensures.fault (elim c.if-is_none.branch [
      | then-is_none w ↦ rw w.tape-is (closes_taken old.names.names went held steps old.fault _ _ old.line.items old.pending mid.fault mid.line.items _ _
          (let fine = w.if-is_none.true in search rules) c.close_room.ensures.fine c.close_room.ensures.says (rw w.as_slice.ensures.value at w.take.ensures) k)
      | else-is_none w ↦ rw w.tape-is (closes_faulty old.names.names went held steps old.fault _ _ old.line.items old.pending mid.fault (λ none. let failed = w.if-is_none.false in search rules) k)
    ])
