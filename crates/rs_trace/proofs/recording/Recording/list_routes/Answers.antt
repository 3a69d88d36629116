use Rattle.std.proofs.Common.{◌≡◌, ◌∙◌, subst}
use Rattle.std.specs.Prelude.{IfOk}
use Rattle.rs_trace.proofs.PlayLemmas.{adds_line}
use Rattle.rs_trace.proofs.recording.Recording.list_routes.Goals as goal

pub returns-in-Ok : goal.returns-in-Ok
returns-in-Ok g c = λ listed_lines is.
    let old = c.args.self.now in
    let wrote = c.write_line-self in
    adds_line g.R.TextIn.takes g.R.TextIn.at_end g.R.TextIn.failures g.W.TextOut.puts g.W.TextOut.failures old.names.now old.reader.ghost_name old.writer.ghost_name
    old.reader.now old.writer.now _ old.lines.now old.number old.stop wrote.result listed_lines
    (λ to o. wrote.ensures.put to o listed_lines (c.deref.ensures.value ∙ subst (λ r. IfOk r (λ made. made.items ≡ listed_lines)) c.in-Ok.is is)) wrote.ensures.fails wrote.ensures.reads wrote.ensures.writes

pub returns-in-Err : goal.returns-in-Err
returns-in-Err g c = λ listed_lines is.
    let old = c.args.self.now in
    let wrote = c.write_line-self-in-Err in
    adds_line g.R.TextIn.takes g.R.TextIn.at_end g.R.TextIn.failures g.W.TextOut.puts g.W.TextOut.failures old.names.now old.reader.ghost_name old.writer.ghost_name
    old.reader.now old.writer.now _ old.lines.now old.number old.stop wrote.result listed_lines
    (λ to o. wrote.ensures.put to o listed_lines tt) wrote.ensures.fails wrote.ensures.reads wrote.ensures.writes
