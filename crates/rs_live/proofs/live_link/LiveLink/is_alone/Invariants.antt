use Rattle.std.proofs.Common.{◌<◌, ℕ}
use Rattle.rs_live.specs.Keeping.{IsApart, held_by, held_of}
use Rattle.rs_live.proofs.live_link.LiveLink.is_alone.Given as goal

abbrev pub invariant-loop-c : goal.invariant-loop-c
invariant-loop-c g l = (d : ℕ) → d < l.c → IsApart (held_by d (held_of l.self.connections.now.items))
