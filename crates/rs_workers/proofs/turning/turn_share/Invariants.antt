use Rattle.std.proofs.Common.{◌≡◌, ℕ, ◌<◌, ◌≤◌, get_or}
use Rattle.rs_outlet.specs.Views.{View}
use Rattle.rs_outlet.specs.Decided.Precedents.{IsHandover}
use Rattle.rs_outlet.specs.Decided.HeldBy.{tables_of}
use Rattle.rs_workers.specs.Turned.{TurnedAlone}
use Rattle.rs_workers.proofs.turning.turn_share.Given as goal

abbrev pub invariant-loop-k : goal.invariant-loop-k
invariant-loop-k g l =
    ((j : ℕ) (d : View) → l.k ≤ j → get_or l.outlets j d ≡ get_or l.initial.outlets j d)
    × ((j : ℕ) (d : View) → j < l.k → TurnedAlone l.config l.tables (get_or l.initial.outlets j d) (get_or l.outlets j d))
    × IsHandover (tables_of l.config l.tables) l.tables l.handover
