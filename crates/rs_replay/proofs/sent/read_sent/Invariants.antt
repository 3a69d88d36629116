use Rattle.std.proofs.Common.{◌≡◌, vec_len}
use Rattle.rs_core.specs.Core.{client_count}
use Rattle.rs_trace.specs.Replays.{place_in}
use Rattle.rs_replay.specs.Taking.{ReadsUpTo}
use Rattle.rs_replay.proofs.sent.read_sent.Given as goal

-- what the lines say that were read was taken
abbrev pub invariant-loop-number : goal.invariant-loop-number
invariant-loop-number g l = record {
  count : vec_len l.connections ≡ client_count l.core;
  failed : g.R.TextIn.failures l.reader ≡ g.R.TextIn.failures l.fn.reader;
  reads : ReadsUpTo g.R.TextIn.takes g.R.TextIn.at_end l.core (place_in l.names) l.until l.fn.reader l.reader l.number l.lines l.connections.items;
}
