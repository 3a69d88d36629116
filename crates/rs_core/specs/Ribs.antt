-- What contracts see of the RIBs, what each call keeps of them, and how calls change them.
use Rattle.std.specs.Prelude.{◌≡◌, ◌≢◌, ◌<◌, ℕ, false, List, [], ◌∷◌, Option, Some, None, slice_get, slice_index_or}
use Rattle.std.specs.FinMap as map
use Rattle.rs_octets.specs.Prefixes.{Prefix}
use Rattle.rs_attrs.specs.Meaning.{Attribute}
use Rattle.rs_adjin.specs.AdjIns.{held_of}
use Rattle.rs_outlet.specs.declared.answers.Speech.{Speech}
use Rattle.rs_outlet.specs.Decided.Due.{due_to}
use Rattle.rs_outlet.specs.Decided.HeldBy.{tables_of}
use Rattle.rs_outlet.specs.Views.{View, AreNumbered, IsStaleTouched, is_touched}
use Rattle.rs_core.specs.Touched.Touches.{IsTouchedAt, IsTouchedBetween, IsTouchedWhere}
use Rattle.rs_core.specs.declared.ribs.Ribs.{Ribs}

abbrev pub outlet_count : Ribs → ℕ
outlet_count ribs = ribs.count

abbrev pub flight_in : Option View → List ℕ
flight_in None = []
flight_in (Some o) = o.flight

-- what is left of the message in flight to a client
abbrev pub lent_by : Ribs → ℕ → List ℕ
lent_by ribs c = flight_in (slice_get ribs.outlets.items c)

-- a client's outlet; of a client that there is not, the one that is given
abbrev pub outlet_in : Ribs → ℕ → View → View
outlet_in ribs c none = slice_index_or ribs.outlets.items c none

-- what is due to a client, as the Adj-RIBs-In are
abbrev pub due_in : Ribs → ℕ → Speech → Prefix → Option (List Attribute)
due_in ribs c = due_to (tables_of ribs.config ribs.tables) c

-- ---- what each call keeps

-- each prefix that is due to a client, or touched for it, stands at its number
pub record IsNumbered (ribs : Ribs) : Type 0 where
  pub each : (c : ℕ) (none : View) → c < ribs.count → AreNumbered (outlet_in ribs c none) ribs.tables

-- where a prefix is not stale, the Loc-RIB has what is due there; and what is stale is touched
pub record IsDecidedBy (due : Speech → Prefix → Option (List Attribute)) (v : View) : Type 0 where
  pub at : (speech : Speech) (p : Prefix) → v.speech ≡ Some speech → is_touched v.stale p ≡ false → map.get v.loc p ≡ due speech p
  pub stale_touched : IsStaleTouched v

-- so it is for each client
pub record IsFresh (ribs : Ribs) : Type 0 where
  pub each : (c : ℕ) (none : View) → c < ribs.count → IsDecidedBy (due_in ribs c) (outlet_in ribs c none)

pub record KeepsFresh (old new : Ribs) : Type 0 where
  pub numbered : IsNumbered old → IsNumbered new
  pub fresh : IsNumbered old → IsFresh old → IsFresh new

-- ---- what calls leave as it was

-- for how many clients, for how long messages, and by what rules
pub record KeepsSettings (old new : Ribs) : Type 0 where
  pub count : new.count ≡ old.count
  pub extended : new.extended ≡ old.extended
  pub config : new.config ≡ old.config

-- the last turn of each client answered what it did
abbrev pub KeepsAnswers : Ribs → Ribs → Type 0
KeepsAnswers old new = (c : ℕ) (none : View) → c < old.count → (outlet_in new c none).last ≡ (outlet_in old c none).last

-- only the outlet of client c has changed, so
pub record ChangesOwn (c : ℕ) (Is : View → View → Type 0) (old new : Ribs) : Type 0 where
  pub own : (none : View) → c < old.count → Is (outlet_in old c none) (outlet_in new c none)
  pub others : (d : ℕ) (none : View) → d ≢ c → outlet_in new d none ≡ outlet_in old d none

-- the outlets of all clients but c have changed so
pub record ChangesOthers (c : ℕ) (Is : View → View → Type 0) (old new : Ribs) : Type 0 where
  pub own : (none : View) → outlet_in new c none ≡ outlet_in old c none
  pub others : (d : ℕ) (none : View) → d < old.count → d ≢ c → Is (outlet_in old d none) (outlet_in new d none)

-- the outlet of client c has changed so, and those of all others so
pub record ChangesAround (c : ℕ) (Is Around : View → View → Type 0) (old new : Ribs) : Type 0 where
  pub own : (none : View) → c < old.count → Is (outlet_in old c none) (outlet_in new c none)
  pub others : (d : ℕ) (none : View) → d < old.count → d ≢ c → Around (outlet_in old d none) (outlet_in new d none)

-- each client's outlet has changed so
pub record ChangesAll (Is : ℕ → View → View → Type 0) (old new : Ribs) : Type 0 where
  pub each : (d : ℕ) (none : View) → d < old.count → Is d (outlet_in old d none) (outlet_in new d none)

-- where client c holds another value at p than before, p was touched for all others, and else no outlet has changed
pub record TouchesChange (c : ℕ) (p : Prefix) (old new : Ribs) : Type 0 where
  pub changed : held_of new.tables c p ≢ held_of old.tables c p → ChangesOthers c (IsTouchedAt (p ∷ [])) old new
  pub unchanged : held_of new.tables c p ≡ held_of old.tables c p → new.outlets ≡ old.outlets

-- the outlets of all clients but c were touched at just the prefixes where this holds
pub record TouchesOthersJustWhere (Holds : Prefix → Type 0) (c : ℕ) (old new : Ribs) : Type 0 where
  pub others : (d : ℕ) (none : View) → d < old.count → d ≢ c → IsTouchedWhere Holds (outlet_in old d none) (outlet_in new d none)

-- at just those where client c holds another value than before
abbrev pub TouchesOthersAtChange : ℕ → Ribs → Ribs → Type 0
TouchesOthersAtChange c old new = TouchesOthersJustWhere (λ p. held_of new.tables c p ≢ held_of old.tables c p) c old new

-- the outlets of all clients but c were touched at each of those, and at none but where this holds
pub record TouchesOthersWithin (Most : Prefix → Type 0) (c : ℕ) (old new : Ribs) : Type 0 where
  pub others : (d : ℕ) (none : View) → d < old.count → d ≢ c → IsTouchedBetween (λ p. held_of new.tables c p ≢ held_of old.tables c p) Most (outlet_in old d none) (outlet_in new d none)
