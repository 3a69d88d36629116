use Rattle.std.proofs.Common.{refl, ◌∙◌}
use Rattle.rs_streams.specs.Printing.{Waits}
use Rattle.rs_streams.proofs.Printing.{line_waits}
use Rattle.rs_streams.proofs.line_queue.LineQueue.put.Goals as goal

pub returns-then-put_counted : goal.returns-then-put_counted
returns-then-put_counted g c = Waits c.flush-then-put_counted.ensures.dropped (line_waits g.S.Stream.takes _ _ _ _ _ _ _ _ _ _ _ c.flush.ensures.goes c.put_counted.ensures.stream c.flush.ensures.dropped (c.put_counted.ensures.whole c.if-put_counted.true) c.flush-then-put_counted.ensures.goes)
