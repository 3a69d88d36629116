use Rattle.std.proofs.Common.{◌≡◌, ◌<◌, ◌≤◌, ℕ, None}
use Rattle.rs_live.specs.Keeping.{held_by, held_of}
use Rattle.rs_live.proofs.live_link.LiveLink.next_live.Given as goal

abbrev pub invariant-loop-c : goal.invariant-loop-c
invariant-loop-c g l = (d : ℕ) → l.from ≤ d → d < l.c → (held_by d (held_of l.self.connections.now.items)).key ≡ None
