use Rattle.std.proofs.Common.{◌≡◌, ◌<◌, ◌≤◌, ℕ, false, List}
use Rattle.rs_core.specs.Run.Moves.{Move}
use Rattle.rs_core.specs.Run.Meaning.{is_ended_at, EndsSome}
use Rattle.rs_core.specs.Run.Agreeing.{Agrees}
use Rattle.rs_core.proofs.route_server.Core.quiet_until.Given as goal

abbrev pub invariant-loop-c : goal.invariant-loop-c
invariant-loop-c l = record {
  quiet : (run : List Move) → Agrees l.self run → (t : ℕ) → t ≤ l.until → (d : ℕ) → d < l.c → is_ended_at run d t ≡ false;
  greatest : (run : List Move) → Agrees l.self run → (t : ℕ) → l.until < t → t ≤ 18446744073709551615 → EndsSome run l.c t;
}
