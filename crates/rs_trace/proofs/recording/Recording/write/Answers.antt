use Rattle.std.proofs.Common.{◌∙◌}
use Rattle.rs_trace.proofs.PlayLemmas.{adds_line, on_ok}
use Rattle.rs_trace.proofs.recording.Recording.write.Goals as goal

pub returns : goal.returns
returns g c = λ wanted is.
    let old = c.args.self.now in
    let wrote = c.write_line-self in
    adds_line g.R.TextIn.takes g.R.TextIn.at_end g.R.TextIn.failures g.W.TextOut.puts g.W.TextOut.failures old.names.now old.reader.ghost_name old.writer.ghost_name
    old.reader.now old.writer.now _ old.lines.now old.number old.stop wrote.result wanted
    (λ to o. wrote.ensures.put to o wanted (on_ok c.args.made is (λ e. c.deref.ensures.value ∙ e))) wrote.ensures.fails wrote.ensures.reads wrote.ensures.writes
