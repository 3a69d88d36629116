use Rattle.std.proofs.Common.{◌∙◌, ap, subst, Some}
use Rattle.rs_trace.specs.declared.fault.Stop.TheVariants.{Fault}
use Rattle.rs_trace.specs.declared.fault.ReplayFault.{ReplayFault}
use Rattle.rs_trace.specs.declared.fault.ReplayFault.TheVariants.{Memory, Reading, Writing}
use Rattle.rs_trace.specs.Replays.{Plays, place_in}
use Rattle.rs_trace.proofs.Replaying.{over_failed}
use Rattle.rs_trace.proofs.recording.Recording.end_at.Goals as goal

pub returns-in-Line-clause-over : goal.returns-in-Line-clause-over
returns-in-Line-clause-over g c = λ first to s o p. c.end_at_line.ensures.over first to s o p

pub returns-in-Memory-clause-over : goal.returns-in-Memory-clause-over
returns-in-Memory-clause-over g c = λ first to s o p.
    let old = c.args.self.now in
    over_failed g.R.TextIn.takes g.R.TextIn.at_end g.R.TextIn.failures g.W.TextOut.puts g.W.TextOut.failures (place_in old.names.now) first to s o old.reader.now old.writer.now old.lines.now old.number Memory (λ m f e. cc)
    (subst (λ x. Plays g.R.TextIn.takes g.R.TextIn.at_end g.R.TextIn.failures g.W.TextOut.puts g.W.TextOut.failures (place_in old.names.now) first to s o old.reader.now old.writer.now old.lines.now old.number x) (c.requires ∙ ap (λ (x : ReplayFault). Some (Fault x)) c.in-Memory.is) p)

pub returns-in-Reading-clause-over : goal.returns-in-Reading-clause-over
returns-in-Reading-clause-over g c = λ first to s o p.
    let old = c.args.self.now in
    over_failed g.R.TextIn.takes g.R.TextIn.at_end g.R.TextIn.failures g.W.TextOut.puts g.W.TextOut.failures (place_in old.names.now) first to s o old.reader.now old.writer.now old.lines.now old.number Reading (λ m f e. cc)
    (subst (λ x. Plays g.R.TextIn.takes g.R.TextIn.at_end g.R.TextIn.failures g.W.TextOut.puts g.W.TextOut.failures (place_in old.names.now) first to s o old.reader.now old.writer.now old.lines.now old.number x) (c.requires ∙ ap (λ (x : ReplayFault). Some (Fault x)) c.in-Reading.is) p)

pub returns-in-Writing-clause-over : goal.returns-in-Writing-clause-over
returns-in-Writing-clause-over g c = λ first to s o p.
    let old = c.args.self.now in
    over_failed g.R.TextIn.takes g.R.TextIn.at_end g.R.TextIn.failures g.W.TextOut.puts g.W.TextOut.failures (place_in old.names.now) first to s o old.reader.now old.writer.now old.lines.now old.number Writing (λ m f e. cc)
    (subst (λ x. Plays g.R.TextIn.takes g.R.TextIn.at_end g.R.TextIn.failures g.W.TextOut.puts g.W.TextOut.failures (place_in old.names.now) first to s o old.reader.now old.writer.now old.lines.now old.number x) (c.requires ∙ ap (λ (x : ReplayFault). Some (Fault x)) c.in-Writing.is) p)
