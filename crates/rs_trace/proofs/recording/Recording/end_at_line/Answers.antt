use Rattle.std.proofs.Common.{◌++◌, ◌∙◌, subst, rules}
use Rattle.rs_trace.specs.Output.{fault_line}
use Rattle.rs_trace.specs.Played.{Puts}
use Rattle.rs_trace.specs.Replays.{FailsOn, Plays, place_in}
use Rattle.rs_trace.proofs.PlayLemmas.{on_ok}
use Rattle.rs_trace.proofs.Replaying.{over_line}
use Rattle.rs_trace.proofs.recording.Recording.end_at_line.Goals as goal

pub returns-in-Some-Fault-clause-over : goal.returns-in-Some-Fault-clause-over
returns-in-Some-Fault-clause-over g c = λ first to s o p.
    let old = c.args.self.now in
    let place = place_in old.names.now in
    let line = fault_line c.args.number c.args.fault in
    let after = c.write_line-self.result in
    over_line g.R.TextIn.takes g.R.TextIn.at_end g.R.TextIn.failures g.W.TextOut.puts g.W.TextOut.failures place first to s o old.reader.now old.writer.now old.lines.now old.number
    c.args.number c.args.fault c.write_line-self.new.writer after
    (subst (λ x. Plays g.R.TextIn.takes g.R.TextIn.at_end g.R.TextIn.failures g.W.TextOut.puts g.W.TextOut.failures place first to s o old.reader.now old.writer.now old.lines.now old.number x) c.requires p)
    (subst (λ x. Puts (λ xs. g.W.TextOut.puts to xs old.writer.now) o x → Puts (λ xs. g.W.TextOut.puts to xs c.write_line-self.new.writer) (o ++ line) after) c.requires
    (c.write_line-self.ensures.put to o line (on_ok c.faulty-made.result c.faulty-made.ensures (λ e. c.deref.ensures.value ∙ e))))
    (subst (λ x. FailsOn x after) c.requires c.write_line-self.ensures.fails)
    c.in-Some-Fault.failure (search rules)
