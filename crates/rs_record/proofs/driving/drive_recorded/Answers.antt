use Rattle.std.proofs.Common.{◌≡◌, ◌∙◌, sym, rules}
use Rattle.rs_core.specs.Drives.Steps.{Step}
use Rattle.rs_core.specs.Drives.Answers.{Drives}
use Rattle.rs_record.specs.declared.recorded.Recorded.{Recorded}
use Rattle.rs_record.proofs.Happening.{Outer, recorded_at, records_drive}
use Rattle.rs_record.proofs.Wrapped.{drives_at, drives_inner, kept_stopped, stopped_at, stopped_inner}
use Rattle.rs_record.proofs.driving.drive_recorded.Given as given
use Rattle.rs_record.proofs.driving.drive_recorded.Goals as goal

-- a step of the link around the link
abbrev Step_of : (g : given.Over) → Recorded g.row.L.Denot g.row.T.Denot → Step → Recorded g.row.L.Denot g.row.T.Denot → Type 0
Step_of g a s b = Outer g.L.Link.happens g.T.Tape.is_over g.T.Tape.holds a s b

pub returns-clause-driven : goal.returns-clause-driven
returns-clause-driven g c =
    let made = c.new-recorded.result in
    let last = c.drive.new.link in
    let same = c.finish.ensures.same_link ∙ kept_stopped (Step_of g) (λ w. w.link.ghost_name) (λ a b s h. h.same_link) made last c.drive.ensures.led ∙ c.new-recorded.ensures.link in
    record {
      count = c.drive.ensures.count;
      led = stopped_at g.L.Link.happens made.link.now last.link.now c.args.link.now _ c.new-recorded.ensures.linked (sym c.finish.ensures.link ∙ search rules)
          (stopped_inner (Step_of g) g.L.Link.happens (λ w. w.link.now) (λ a b s h. h.linked) made last c.drive.ensures.led);
      drives = drives_at g.L.Link.happens Drives c.args.core.now c.drive.new.core made.link.now last.link.now c.args.link.now _ c.new-recorded.ensures.linked (sym c.finish.ensures.link ∙ search rules)
          (drives_inner (Step_of g) g.L.Link.happens (λ w. w.link.now) (λ a b s h. h.linked) c.args.core.now made c.drive.new.core last c.drive.ensures.drives);
    }

pub returns-clause-names : goal.returns-clause-names
returns-clause-names g c =
    let made = c.new-recorded.result in
    let last = c.drive.new.link in
    let same = c.finish.ensures.same_recorder ∙ kept_stopped (Step_of g) (λ w. w.recorder.ghost_name) (λ a b s h. h.same_recorder) made last c.drive.ensures.led ∙ c.new-recorded.ensures.recorder in
    let names : c.finish.new.self.recorder.now.names ≡ c.args.recorder.now.names = c.finish.ensures.names ∙ kept_stopped (Step_of g) (λ w. w.recorder.now.names) (λ a b s h. h.same_names) made last c.drive.ensures.led ∙ c.new-recorded.ensures.names in
    search rules

pub returns-clause-recorded : goal.returns-clause-recorded
returns-clause-recorded g c =
    let made = c.new-recorded.result in
    let last = c.drive.new.link in
    let now = c.finish.new.self in
    let same_link = c.finish.ensures.same_link ∙ kept_stopped (Step_of g) (λ w. w.link.ghost_name) (λ a b s h. h.same_link) made last c.drive.ensures.led ∙ c.new-recorded.ensures.link in
    let same_recorder = c.finish.ensures.same_recorder ∙ kept_stopped (Step_of g) (λ w. w.recorder.ghost_name) (λ a b s h. h.same_recorder) made last c.drive.ensures.led ∙ c.new-recorded.ensures.recorder in
    let same_tape = c.finish.ensures.same_tape ∙ kept_stopped (Step_of g) (λ w. w.tape.ghost_name) (λ a b s h. h.same_tape) made last c.drive.ensures.led ∙ c.new-recorded.ensures.tape in
    recorded_at g.L.Link.happens g.T.Tape.is_over g.T.Tape.holds c.args.core.now c.drive.new.core made.link.now last.link.now c.args.link.now _ made.recorder.now.names c.args.recorder.now.names
    now.recorder.now.fault _ made.recorder.now.fault c.args.recorder.now.fault made.tape.now c.args.tape.now now.tape.now _
    c.new-recorded.ensures.linked (sym c.finish.ensures.link ∙ search rules) c.new-recorded.ensures.names c.new-recorded.ensures.fault c.new-recorded.ensures.taped (search rules) (search rules)
    (records_drive g.L.Link.happens g.T.Tape.is_over g.T.Tape.holds c.args.core.now c.drive.new.core made last now.recorder.now.fault now.tape.now c.new-recorded.ensures.line c.new-recorded.ensures.pending c.finish.ensures.closes c.drive.ensures.drives)
