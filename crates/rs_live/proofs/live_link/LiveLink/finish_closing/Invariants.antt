use Rattle.rs_live.specs.Leaving.{KeepsOn}
use Rattle.rs_live.proofs.live_link.LiveLink.finish_closing.Given as goal

abbrev pub invariant-loop-c : goal.invariant-loop-c
invariant-loop-c g l = KeepsOn g.P.Ports.asked l.fn.self l.self
