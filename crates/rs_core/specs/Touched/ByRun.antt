-- What is touched for a client, and what its turn decides, by the run.
use Rattle.std.specs.Prelude.{◌≡◌, ◌≢◌, ◌<◌, ◌↔◌, ◌⊎◌, ℕ, Bool, true, false, ◌||◌, List, [], ◌∷◌, is_some, Option, Some, None}
use Rattle.std.specs.List.{Contains}
use Rattle.std.specs.FinSet as set
use Rattle.rs_octets.specs.Prefixes.{Prefix}
use Rattle.rs_outlet.specs.declared.answers.Last.TheVariants.{Done}
use Rattle.rs_outlet.specs.declared.answers.Turned.{Turned}
use Rattle.rs_outlet.specs.Decided.Due.{any_holds}
use Rattle.rs_outlet.specs.Views.{IsNumberOf, Prefixes, is_touched, is_whole, with_touch}
use Rattle.rs_core.specs.Told.Points.{latest}
use Rattle.rs_core.specs.Run.Moves.{Move, Dropped, config_in}
use Rattle.rs_core.specs.Run.Meaning.{due, dues, hearing, held_in, is_established, table}
use Rattle.rs_core.specs.Touched.Altering.{IsAlteredBy}
use Rattle.rs_core.specs.Core.{client_count, last_of, loc_rib, touched_for}
use Rattle.rs_core.specs.declared.route_server.Core.{Core}

-- ---- what is touched

-- these prefixes too; all where there is no room for one of them
abbrev pub with_touches : List Prefix → Option Prefixes → Option Prefixes
with_touches [] touched = touched
with_touches (p ∷ ps) touched = with_touches ps (with_touch touched p)

-- just the prefixes where this holds were touched, besides those that were
pub record TouchesWhere (Holds : Prefix → Type 0) (old new : Option Prefixes) : Type 0 where
  pub prefixes : List Prefix
  pub just : (p : Prefix) → Contains prefixes p ↔ Holds p
  pub are : new ≡ with_touches prefixes old

-- prefixes were touched, besides those that were: each where the first holds, and none but where the second does
pub record TouchesBetween (Least Most : Prefix → Type 0) (old new : Option Prefixes) : Type 0 where
  pub prefixes : List Prefix
  pub all : (p : Prefix) → Least p → Contains prefixes p
  pub most : (p : Prefix) → Contains prefixes p → Most p
  pub are : new ≡ with_touches prefixes old

-- client c has another value at p after a move than before it
abbrev pub IsChangedBy : Move → List Move → ℕ → Prefix → Type 0
IsChangedBy move run c p = table (move ∷ run) c p ≢ table run c p

-- Octets of client c for which memory was refused may have changed its value at p: it has another one without its connection, or
-- one of the messages that are whole with these octets would have given it one, and may have been heard before memory was refused.
abbrev pub MayBeChangedBy : List ℕ → List Move → ℕ → Prefix → Type 0
MayBeChangedBy octets run c p = IsChangedBy (Dropped c octets) run c p ⊎ IsAlteredBy (config_in run) c octets (hearing c run) p

-- just the prefixes where this holds were touched for each client but c that is Established
pub record TouchesOthersWhere (Holds : Prefix → Type 0) (c : ℕ) (run : List Move) (old new : Core) : Type 0 where
  pub others : (d : ℕ) → d < client_count old → d ≢ c → is_established run d ≡ true → TouchesWhere Holds (touched_for old d) (touched_for new d)

-- each prefix where the first holds, and none but where the second does
pub record TouchesOthersBetween (Least Most : Prefix → Type 0) (c : ℕ) (run : List Move) (old new : Core) : Type 0 where
  pub others : (d : ℕ) → d < client_count old → d ≢ c → is_established run d ≡ true → TouchesBetween Least Most (touched_for old d) (touched_for new d)

-- one of the first n clients, and not c, has another value at p after a move than before it
abbrev pub IsChangedElsewhere : ℕ → Move → List Move → ℕ → Prefix → Type 0
IsChangedElsewhere n move run c p = (d : ℕ) × (d < n) × (d ≢ c) × IsChangedBy move run d p

-- by a move of all clients just the prefixes where another client has another value than before were touched for each that was
-- Established and still is
pub record TouchesChanges (move : Move) (run : List Move) (old new : Core) : Type 0 where
  pub each : (c : ℕ) → c < client_count old → is_established run c ≡ true → is_established (move ∷ run) c ≡ true → TouchesWhere (IsChangedElsewhere (client_count old) move run c) (touched_for old c) (touched_for new c)

-- what is touched for each client that is Established is what was
pub record KeepsTouched (run : List Move) (old new : Core) : Type 0 where
  pub each : (c : ℕ) → c < client_count old → is_established run c ≡ true → touched_for new c ≡ touched_for old c

-- by a move of client c: where it has come up, all is to be decided for it; where it was Established and still is, what was
pub record TouchesItself (move : Move) (c : ℕ) (run : List Move) (old new : Core) : Type 0 where
  pub came_up : is_established run c ≡ false → is_established (move ∷ run) c ≡ true → touched_for new c ≡ None
  pub kept : is_established run c ≡ true → is_established (move ∷ run) c ≡ true → touched_for new c ≡ touched_for old c

-- all is to be decided for each client that is Established
pub record TouchesAll (run : List Move) (core : Core) : Type 0 where
  pub each : (c : ℕ) → c < client_count core → is_established run c ≡ true → touched_for core c ≡ None

-- ---- what a turn decides

-- a client holds it, or it was due at the last turn
abbrev pub stands : List Move → ℕ → Prefix → Bool
stands run c p = is_some (latest (dues run c p)) || any_holds (held_in run) p

-- how many prefixes are decided: those that are touched; where all are, those that stand
abbrev pub IsCountOf : (Prefix → Bool) → Option Prefixes → ℕ → Type 0
IsCountOf is_standing None n = IsNumberOf is_standing n
IsCountOf is_standing (Some touched) n = n ≡ set.len touched

-- The turn of a client decided each touched prefix, once, and no other: there the Loc-RIB has what is due, elsewhere what it
-- had. The answer says how many they were, and whether all were; nothing is touched any more.
pub record DecidesTouched (run : List Move) (c : ℕ) (old new : Core) : Type 0 where
  pub turned : Turned
  pub last : last_of new c ≡ Done turned
  pub whole : turned.whole ≡ is_whole (touched_for old c)
  pub count : IsCountOf (stands run c) (touched_for old c) turned.decided
  pub decided : (p : Prefix) → is_touched (touched_for old c) p ≡ true → loc_rib new c p ≡ due run c p
  pub kept : (p : Prefix) → is_touched (touched_for old c) p ≡ false → loc_rib new c p ≡ loc_rib old c p
  pub none_left : touched_for new c ≡ Some set.empty
