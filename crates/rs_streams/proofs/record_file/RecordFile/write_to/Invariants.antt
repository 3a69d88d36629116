use Rattle.std.proofs.Common.{◌≡◌}
use Rattle.rs_streams.specs.Printing.{Goes}
use Rattle.rs_streams.proofs.record_file.RecordFile.write_to.Given as goal

abbrev pub invariant-loop : goal.invariant-loop
invariant-loop g l = record {
  goes : Goes g.S.Stream.takes l.fn.self.file l.fn.self.queue l.self.file l.self.queue;
}
