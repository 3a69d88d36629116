use Rattle.std.proofs.Common.{◌≡◌}
use Rattle.rs_streams.specs.Printing.{Goes}
use Rattle.rs_streams.proofs.line_queue.LineQueue.flush.Given as goal

abbrev pub invariant-loop : goal.invariant-loop
invariant-loop g l = record {
  goes : Goes g.S.Stream.takes l.fn.self.stream l.fn.self.waiting l.self.stream l.self.waiting;
  dropped : l.self.dropped ≡ l.fn.self.dropped;
}
