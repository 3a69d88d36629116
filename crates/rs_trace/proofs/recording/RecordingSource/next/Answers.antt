use Rattle.std.proofs.Common.{◌≡◌, ◌∙◌, ap, sym, Some, None, rules}
use Rattle.rs_core.specs.declared.links.Event.TheVariants.{Stop}
use Rattle.rs_trace.specs.Replays.{meaning_read, stop_of}
use Rattle.rs_trace.proofs.PlayLemmas.{read_on}
use Rattle.rs_trace.proofs.recording.RecordingSource.next.Goals as goal

pub returns-in-Ok : goal.returns-in-Ok
returns-in-Ok g c =
    let old = c.args.self.now in
    let read = c.next_event.new in
    let none : old.stop ≡ None = search rules in
    read_on g.R.TextIn.takes g.R.TextIn.at_end g.R.TextIn.failures g.W.TextOut.puts g.W.TextOut.failures g.met.R.TextIn.takes_on old.names.now old.reader.ghost_name old.writer.ghost_name
    old.reader.now read.reader old.writer.now old.lines.now read.lines old.number read.number old.stop old.stop read.piece c.next_event.result c.in-Ok.event
    none (ap stop_of c.in-Ok.is ∙ sym none) (ap (meaning_read read.piece read.lines.rules.items) c.in-Ok.is) c.next_event.ensures.on c.next_event.ensures.reads c.next_event.ensures.unwritten

pub returns-in-Err : goal.returns-in-Err
returns-in-Err g c =
    let old = c.args.self.now in
    let read = c.next_event.new in
    let none : old.stop ≡ None = search rules in
    read_on g.R.TextIn.takes g.R.TextIn.at_end g.R.TextIn.failures g.W.TextOut.puts g.W.TextOut.failures g.met.R.TextIn.takes_on old.names.now old.reader.ghost_name old.writer.ghost_name
    old.reader.now read.reader old.writer.now old.lines.now read.lines old.number read.number old.stop (Some c.in-Err.stop) read.piece c.next_event.result Stop
    none (ap stop_of c.in-Err.is) (ap (meaning_read read.piece read.lines.rules.items) c.in-Err.is) c.next_event.ensures.on c.next_event.ensures.reads c.next_event.ensures.unwritten
