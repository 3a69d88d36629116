-- What is touched for a client, and what its turn decides, by what befell the others since its last turn.
use Rattle.std.specs.Prelude.{◌≡◌, ◌⊎◌, ◌<◌, ◌↔◌, ℕ, true, false, List, ◌∷◌, ◌++◌, nat_lt, Option, Some, None, if◌then◌else◌}
use Rattle.std.specs.List.{Contains}
use Rattle.std.specs.FinSet as set
use Rattle.rs_octets.specs.Prefixes.{Prefix}
use Rattle.rs_policy.specs.Configuration.{Configuration}
use Rattle.rs_outlet.specs.declared.answers.Last.TheVariants.{Done}
use Rattle.rs_outlet.specs.declared.answers.Turned.{Turned}
use Rattle.rs_outlet.specs.Views.{IsNumberOf, Prefixes, is_touched}
use Rattle.rs_core.specs.Run.Moves.{Move, Ruled, Dropped}
use Rattle.rs_core.specs.Run.Moves as moves
use Rattle.rs_core.specs.Run.Meaning.{is_established, is_listed}
use Rattle.rs_core.specs.Core.{client_count, last_of, touched_for}
use Rattle.rs_core.specs.Run.Agreeing.{Agrees}
use Rattle.rs_core.specs.Touched.ByRun.{DecidesTouched, stands}
use Rattle.rs_core.specs.Touched.ByMoves.{Alters, MayAlter}
use Rattle.rs_core.specs.declared.route_server.Core.{Core}

-- ---- since the last turn

-- Since the last turn that was done for client c there was a move for which this holds on the run before it: at each turn since,
-- memory was refused for the client.
pub record Since (Holds : Move → List Move → Type 0) (c : ℕ) (run : List Move) : Type 0 where
  pub later : List Move
  pub move : Move
  pub before : List Move
  pub whole : run ≡ later ++ move ∷ before
  pub refused : (clients : List ℕ) → Contains later (moves.Turned clients) → is_listed c clients ≡ true
  pub holds : Holds move before

-- all is to be decided for client c: it came up, or another configuration was accepted
abbrev pub AsksForAll : ℕ → Move → List Move → Type 0
AsksForAll c move before = ((config : Configuration) × (move ≡ Ruled config)) ⊎ ((is_established before c ≡ false) × (is_established (move ∷ before) c ≡ true))

abbrev pub IsAskedForAll : List Move → ℕ → Type 0
IsAskedForAll run c = Since (AsksForAll c) c run

-- a move gave another client another value at p
abbrev pub IsAltered : List Move → ℕ → Prefix → Type 0
IsAltered run c p = Since (λ move before. Alters move before c p) c run

-- a move did, or would have, if memory had not been refused for its octets
abbrev pub MayBeAltered : List Move → ℕ → Prefix → Type 0
MayBeAltered run c p = Since (λ move before. MayAlter move before c p) c run

-- memory was refused for octets of a client
abbrev pub IsCut : List Move → ℕ → Type 0
IsCut run c = Since (λ move before. (d : ℕ) × (octets : List ℕ) × (move ≡ Dropped d octets)) c run

-- ---- what is touched

-- so many prefixes by themselves; more of them are all
abbrev pub if_room : Prefixes → Option Prefixes
if_room prefixes = if nat_lt 4096 (set.len prefixes) then None else Some prefixes

-- just the prefixes where this holds are touched, by themselves where they are no more than 4,096, else with all others
pub record IsJustWhere (Holds : Prefix → Type 0) (touched : Option Prefixes) : Type 0 where
  pub prefixes : Prefixes
  pub just : (p : Prefix) → (set.contains prefixes p ≡ true) ↔ Holds p
  pub are : touched ≡ if_room prefixes

-- among these is each prefix where the first holds, and none but where the second does
pub record LieBetween (Least Most : Prefix → Type 0) (prefixes : Prefixes) : Type 0 where
  pub all : (p : Prefix) → Least p → set.contains prefixes p ≡ true
  pub most : (p : Prefix) → set.contains prefixes p ≡ true → Most p

-- What is touched for an Established client: all, where all is to be decided; else a set of prefixes, by themselves or as all, that
-- has each that was altered and none but those that may have been. Where no octets were cut short it is just what was altered.
pub record IsTouchedSince (run : List Move) (c : ℕ) (touched : Option Prefixes) : Type 0 where
  pub all : IsAskedForAll run c → touched ≡ None
  pub least : (p : Prefix) → IsAltered run c p → is_touched touched p ≡ true
  pub most : (IsAskedForAll run c → ⊥) → (prefixes : Prefixes) × LieBetween (IsAltered run c) (MayBeAltered run c) prefixes × (touched ≡ if_room prefixes)
  pub just : (IsAskedForAll run c → ⊥) → (IsCut run c → ⊥) → IsJustWhere (IsAltered run c) touched

abbrev pub TouchesWhatWasAltered : Type 0
TouchesWhatWasAltered = (core : Core) (run : List Move) (c : ℕ) → c < client_count core → Agrees core run → is_established run c ≡ true → IsTouchedSince run c (touched_for core c)

-- ---- what a turn decides

-- it was whole just where these are more than 4,096, and counts them where it was not
pub record IsAnswerFor (prefixes : Prefixes) (turned : Turned) : Type 0 where
  pub whole : turned.whole ≡ nat_lt 4096 (set.len prefixes)
  pub count : turned.whole ≡ false → turned.decided ≡ set.len prefixes

-- The answer of a turn of client c: it was whole where all was to be decided; else it is that for a set of prefixes that has each
-- that was altered and none but those that may have been; where no octets were cut short, for just those that were altered. A
-- whole one counts the prefixes that anyone holds or that were due.
pub record IsAnswerTo (run : List Move) (c : ℕ) (turned : Turned) : Type 0 where
  pub all : IsAskedForAll run c → turned.whole ≡ true
  pub most : (IsAskedForAll run c → ⊥) → (prefixes : Prefixes) × LieBetween (IsAltered run c) (MayBeAltered run c) prefixes × IsAnswerFor prefixes turned
  pub just : (IsAskedForAll run c → ⊥) → (IsCut run c → ⊥) → (prefixes : Prefixes) × ((p : Prefix) → (set.contains prefixes p ≡ true) ↔ IsAltered run c p) × IsAnswerFor prefixes turned
  pub standing : turned.whole ≡ true → IsNumberOf (stands run c) turned.decided

abbrev pub AnswersByWhatWasAltered : Type 0
AnswersByWhatWasAltered = (old new : Core) (run : List Move) (c : ℕ) → c < client_count old → Agrees old run → is_established run c ≡ true → DecidesTouched run c old new → (turned : Turned) × (last_of new c ≡ Done turned) × IsAnswerTo run c turned
