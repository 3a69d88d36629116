-- What a client is told over a run, as laws of each route server that agrees with it.
use Rattle.std.specs.Prelude.{◌≡◌, ◌≢◌, ◌⊎◌, ◌<◌, ℕ, Bool, true, false, List, [], ◌∷◌, ◌++◌, Some, None, is_some, ⊤}
use Rattle.rs_octets.specs.Prefixes.{Prefix}
use Rattle.rs_outlet.specs.declared.answers.Speech.{Speech}
use Rattle.rs_core.specs.Told.Points.{Point, Decided, Asked, Offered, Value, dues_at, latest}
use Rattle.rs_core.specs.Told.Order.{TellsAt, TellsInOrder}
use Rattle.rs_core.specs.Run.Moves.{Move, config_in}
use Rattle.rs_core.specs.Core.{client_count, loc_rib}
use Rattle.rs_core.specs.Run.Meaning.{hearing, speech_in, is_established, due, dues}
use Rattle.rs_core.specs.Told.Telling.{IsReadable}
use Rattle.rs_core.specs.Run.Agreeing.{Agrees}
use Rattle.rs_core.specs.declared.route_server.Core.{Core}

-- ---- values, the newest first

-- it is the first of these
abbrev pub IsFirstOf : Value → List Value → Type 0
IsFirstOf value [] = ⊥
IsFirstOf value (first ∷ values) = value ≡ first

-- the first values are had from the second by leaving some out, in their order; of the first, neighbours that are alike
-- count as one
abbrev pub IsHadFrom : List Value → List Value → Type 0
IsHadFrom [] dues = ⊤
IsHadFrom (value ∷ values) [] = ⊥
IsHadFrom (value ∷ values) (due ∷ dues) =
    ((value ≡ due) × (IsHadFrom values dues ⊎ (IsFirstOf value values × IsHadFrom values (due ∷ dues)))) ⊎ IsHadFrom (value ∷ values) dues

-- no two neighbours are alike
abbrev pub Alternate : List Value → Type 0
Alternate [] = ⊤
Alternate (value ∷ []) = ⊤
Alternate (value ∷ next ∷ values) = (value ≢ next) × Alternate (next ∷ values)

-- the client asked for all routes since its connection came
abbrev pub has_asked : List Point → Bool
has_asked [] = false
has_asked (Decided due ∷ points) = has_asked points
has_asked (Asked ∷ points) = true
has_asked (Offered taken ∷ points) = has_asked points

-- by the UPDATEs in these octets the client was told this value at a prefix last, in order, and it has not asked since
pub record HasBeenAnswered (speech : Speech) (points : List Point) (octets : List ℕ) (p : Prefix) (value : Value) : Type 0 where
  pub readable : IsReadable speech.limit octets
  pub values : List Value
  pub tells : TellsAt speech octets p values
  pub last : latest values ≡ value
  pub order : TellsInOrder speech points p values false

-- ---- laws

-- In these octets no header is at fault. The values that their UPDATEs tell the client at a prefix, after none at first, were due at
-- the turns, after none at first, in this order. Each value was the one due at the last turn before its message began, and it was
-- another one than that told before it, but where the client had asked since.
pub record IsToldInTurn (speech : Speech) (points : List Point) (octets : List ℕ) (p : Prefix) : Type 0 where
  pub readable : IsReadable speech.limit octets
  pub values : List Value
  pub asked : Bool
  pub tells : TellsAt speech octets p values
  pub order : TellsInOrder speech points p values asked
  pub had : IsHadFrom (values ++ None ∷ []) (dues_at points p ++ None ∷ [])
  pub alternate : has_asked points ≡ false → Alternate (values ++ None ∷ [])

-- at each point of each run a client that is Established was told by what its link took, in turn, what was due
abbrev pub TellsInTurn : Type 0
TellsInTurn =
    (core : Core) (run : List Move) (c : ℕ) (speech : Speech) (p : Prefix) → c < client_count core → Agrees core run
    → speech_in (config_in run) c (hearing c run) ≡ Some speech → IsToldInTurn speech (hearing c run).points (hearing c run).taken p

-- and its Loc-RIB is what was due at its last turn since it is Established; empty before the first
abbrev pub HasWhatWasDue : Type 0
HasWhatWasDue =
    (core : Core) (run : List Move) (c : ℕ) (p : Prefix) → c < client_count core → Agrees core run
    → is_established run c ≡ true → loc_rib core c p ≡ latest (dues run c p)

-- what is due to a client at each prefix that has a route it was told last, by an UPDATE that began after its last request
pub record IsAnswered (run : List Move) (c : ℕ) : Type 0 where
  pub told : (speech : Speech) (p : Prefix) → speech_in (config_in run) c (hearing c run) ≡ Some speech → is_some (due run c p) ≡ true → HasBeenAnswered speech (hearing c run).points (hearing c run).taken p (due run c p)
