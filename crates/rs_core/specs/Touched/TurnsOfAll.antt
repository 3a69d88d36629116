-- What a turn of all clients makes of a route server.
use Rattle.std.specs.Prelude.{◌≡◌, ◌<◌, ◌+◌, ℕ, true, false, List, ◌∷◌}
use Rattle.rs_core.specs.Core.{client_count, is_decided, is_refused, refused_below, refused_clients, touched_for}
use Rattle.rs_core.specs.Run.Moves.{Move, Turned}
use Rattle.rs_core.specs.Run.Agreeing.{Agrees}
use Rattle.rs_core.specs.Run.Meaning.{is_established}
use Rattle.rs_core.specs.Touched.ByRun.{DecidesTouched}
use Rattle.rs_core.specs.declared.turning.Turns.{Turns}
use Rattle.rs_core.specs.declared.route_server.Core.{Core}

-- It says for how many clients memory was refused, and how many others there are. A turn that was not refused decides what is touched
-- for a client that is Established, and then nothing is touched for it; one that was leaves what is touched. Memory is refused only
-- for those that are Established.
pub record HasTurnedAll (answer : Turns) (old new : Core) : Type 0 where
  pub clients : client_count new ≡ client_count old
  pub refused : answer.refused ≡ refused_clients new
  pub all : answer.done + answer.refused ≡ client_count new
  pub turned : (run : List Move) → Agrees old run → Agrees new (Turned (refused_below new (client_count new)) ∷ run)
  pub decided : (c : ℕ) (run : List Move) → c < client_count old → Agrees old run → is_established run c ≡ true → is_refused new c ≡ false → is_decided new c ≡ true
  pub touched : (c : ℕ) (run : List Move) → c < client_count old → Agrees old run → is_established run c ≡ true → is_refused new c ≡ false → DecidesTouched run c old new
  pub refusal : (c : ℕ) → c < client_count old → is_refused new c ≡ true → touched_for new c ≡ touched_for old c
  pub refused_only_up : (c : ℕ) (run : List Move) → c < client_count old → Agrees old run → is_refused new c ≡ true → is_established run c ≡ true
