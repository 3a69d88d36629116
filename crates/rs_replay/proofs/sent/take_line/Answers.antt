use Rattle.rs_trace.specs.Replays.{place_in}
use Rattle.rs_replay.proofs.SentReading.{reads_bad, reads_over, reads_passed, reads_said}
use Rattle.rs_replay.proofs.sent.take_line.Goals as goal

pub returns-in-Ok-Over-clause-on : goal.returns-in-Ok-Over-clause-on
returns-in-Ok-Over-clause-on g c first same up =
    reads_over g.R.TextIn.takes g.met.R.TextIn.takes_on g.R.TextIn.at_end c.args.core.now (place_in c.args.names.now) c.args.until first c.args.reader.now c.next_line.new.reader c.args.number c.args.lines.now
    c.next_line.new.lines c.next_line.new.piece c.args.connections.now up c.in-Ok-Over.field-0 c.in-Ok-Over.field-0-is c.in-Ok-Over.ensures.on

pub returns-in-Ok-Passed-clause-on : goal.returns-in-Ok-Passed-clause-on
returns-in-Ok-Passed-clause-on g c first same up =
    reads_passed g.R.TextIn.takes g.met.R.TextIn.takes_on g.R.TextIn.at_end c.args.core.now (place_in c.args.names.now) c.args.until first c.args.reader.now c.next_line.new.reader c.args.number c.args.lines.now
    c.next_line.new.lines c.next_line.new.piece c.args.connections.now up c.in-Ok-Passed.field-0 c.in-Ok-Passed.field-0-is c.in-Ok-Passed.ensures.on

pub returns-in-Ok-clause-on : goal.returns-in-Ok-clause-on
returns-in-Ok-clause-on g c first same up =
    reads_said g.R.TextIn.takes g.met.R.TextIn.takes_on g.R.TextIn.at_end c.args.core.now (place_in c.args.names.now) c.args.until first c.args.reader.now c.next_line.new.reader c.args.number c.args.lines.now
    c.next_line.new.lines c.next_line.new.piece c.args.connections.now up c.in-Ok-Said.field-0 c.in-Ok-Said.entry c.hear.new.connections c.in-Ok-Said.field-0-is c.in-Ok-Said.ensures.on c.in-Ok.ensures

pub returns-in-Err-clause-on : goal.returns-in-Err-clause-on
returns-in-Err-clause-on g c first same up =
    reads_bad g.R.TextIn.takes g.met.R.TextIn.takes_on g.R.TextIn.at_end c.args.core.now (place_in c.args.names.now) c.args.until first c.args.reader.now c.next_line.new.reader c.args.number c.args.lines.now
    c.next_line.new.lines c.next_line.new.piece c.args.connections.now up g.R.TextIn.failures c.in-Err.fault c.in-Err.ensures.on c.in-Err.ensures.reads same
