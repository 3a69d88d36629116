-- What the last turn of a client answered, after a run.
use Rattle.std.specs.Prelude.{◌≡◌, ℕ, true, false, List, [], ◌∷◌, Option}
use Rattle.rs_outlet.specs.declared.answers.Last.{Last}
use Rattle.rs_outlet.specs.declared.answers.Last.TheVariants as lasts
use Rattle.rs_outlet.specs.declared.answers.Turned.{Turned}
use Rattle.rs_outlet.specs.Views.{Prefixes, is_whole}
use Rattle.rs_core.specs.Run.Moves.{Move}
use Rattle.rs_core.specs.Run.Moves as moves
use Rattle.rs_core.specs.Run.Meaning.{is_established, is_listed}
use Rattle.rs_core.specs.Touched.ByRun.{IsCountOf, stands}
use Rattle.rs_core.specs.Touched.ByMoves.{IsTouchedBehind}

-- A turn after this run decides what the run touches for the client: the answer says whether that is all, and how many prefixes
-- it is; where it is all, those that stand.
pub record CountsTouched (run : List Move) (c : ℕ) (turned : Turned) : Type 0 where
  pub touched : Option Prefixes
  pub behind : IsTouchedBehind run c touched
  pub whole : turned.whole ≡ is_whole touched
  pub count : IsCountOf (stands run c) touched turned.decided

-- What a turn after this run answers for client c; it is of all clients but those for which memory was refused. Each of these is
-- Established; nothing is decided for a client that isn't.
pub record IsTurnAnswer (refused : List ℕ) (run : List Move) (c : ℕ) (last : Last) : Type 0 where
  pub refusal : is_listed c refused ≡ true → (is_established run c ≡ true) × (last ≡ lasts.Refused)
  pub down : is_established run c ≡ false → last ≡ lasts.Done (record { decided = 0; whole = false })
  pub up : is_listed c refused ≡ false → is_established run c ≡ true → (turned : Turned) × (last ≡ lasts.Done turned) × CountsTouched run c turned

-- Only a turn gives another answer: neither the end of a session nor a new one does.
abbrev pub IsLastBehind : List Move → ℕ → Last → Type 0
IsLastBehind [] c last = last ≡ lasts.Never
IsLastBehind (moves.Turned refused ∷ run) c last = IsTurnAnswer refused run c last
IsLastBehind (move ∷ run) c last = IsLastBehind run c last
