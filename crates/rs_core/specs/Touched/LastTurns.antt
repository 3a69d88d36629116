-- What the last turn of a client answered, by the last turn of a run.
use Rattle.std.specs.Prelude.{◌≡◌, ◌<◌, ℕ, true, false, List, ◌∷◌, ◌++◌}
use Rattle.std.specs.List.{Contains}
use Rattle.rs_outlet.specs.declared.answers.Last.{Last}
use Rattle.rs_outlet.specs.declared.answers.Last.TheVariants as lasts
use Rattle.rs_outlet.specs.declared.answers.Turned.{Turned}
use Rattle.rs_core.specs.Run.Moves.{Move}
use Rattle.rs_core.specs.Run.Moves as moves
use Rattle.rs_core.specs.Run.Meaning.{is_established, is_listed}
use Rattle.rs_core.specs.Core.{client_count, last_of}
use Rattle.rs_core.specs.Run.Agreeing.{Agrees}
use Rattle.rs_core.specs.Touched.SinceLastTurn.{IsAnswerTo}
use Rattle.rs_core.specs.declared.route_server.Core.{Core}

abbrev pub HasNoTurn : List Move → Type 0
HasNoTurn run = (refused : List ℕ) → Contains run (moves.Turned refused) → ⊥

-- the last turn of a run was of all clients but these, after this run
pub record IsLastTurn (run : List Move) (refused : List ℕ) (before : List Move) : Type 0 where
  pub later : List Move
  pub whole : run ≡ later ++ moves.Turned refused ∷ before
  pub none : HasNoTurn later

-- Client c has the answer of the last turn: refused where memory was refused for it, which is then Established; nothing decided
-- where it wasn't Established; else what was altered before that turn. Where there was no turn yet it has none.
pub record HasLastAnswer (run : List Move) (c : ℕ) (last : Last) : Type 0 where
  pub never : HasNoTurn run → last ≡ lasts.Never
  pub refused : (clients : List ℕ) (before : List Move) → IsLastTurn run clients before → is_listed c clients ≡ true → (is_established before c ≡ true) × (last ≡ lasts.Refused)
  pub down : (clients : List ℕ) (before : List Move) → IsLastTurn run clients before → is_established before c ≡ false → last ≡ lasts.Done (record { decided = 0; whole = false })
  pub up : (clients : List ℕ) (before : List Move) → IsLastTurn run clients before → is_listed c clients ≡ false → is_established before c ≡ true → (turned : Turned) × (last ≡ lasts.Done turned) × IsAnswerTo before c turned

abbrev pub AnswersByTheLastTurn : Type 0
AnswersByTheLastTurn = (core : Core) (run : List Move) (c : ℕ) → c < client_count core → Agrees core run → HasLastAnswer run c (last_of core c)
