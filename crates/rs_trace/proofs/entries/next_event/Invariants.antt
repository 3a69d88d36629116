use Rattle.std.proofs.Common.{◌≡◌, [], None}
use Rattle.rs_trace.specs.Replays.{place_in, ReadsOn}
use Rattle.rs_trace.proofs.entries.next_event.Given as goal

-- so far lines were read that say nothing
abbrev pub invariant-loop : goal.invariant-loop
invariant-loop g l =
    ReadsOn g.R.TextIn.takes g.R.TextIn.at_end (place_in l.fn.names) l.fn.reader l.fn.number l.fn.lines l.reader l.number l.lines [] None
    × (g.R.TextIn.failures l.reader ≡ g.R.TextIn.failures l.fn.reader)
