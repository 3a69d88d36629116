-- What one turn of one outlet leaves, and what a turn of all does.
use Rattle.std.specs.Prelude.{◌≡◌, ◌<◌, ◌⊎◌, ℕ, List, length, slice_index_or}
use Rattle.rs_adjin.specs.declared.adj_ins.AdjIns.{AdjIns}
use Rattle.rs_policy.specs.Configuration.{Configuration}
use Rattle.rs_outlet.specs.declared.answers.Last.TheVariants.{Done}
use Rattle.rs_outlet.specs.declared.answers.Turned.{Turned}
use Rattle.rs_outlet.specs.Views.{View, AreNumbered, WaitsAreExact}
use Rattle.rs_outlet.specs.Decided.Turns.{HasTurned, IsCurrent, IsRefused}

-- each outlet's client is one of the configuration's
abbrev pub ArePlaced : Configuration → List View → Type 0
ArePlaced config outlets = (i : ℕ) (d : View) → i < length outlets → (slice_index_or outlets i d).client < length config.clients

-- the turn was done, or it was refused memory, and then the outlet is up and nothing but the answer of the last turn has changed
abbrev pub IsAnswered : Configuration → AdjIns → View → View → Type 0
IsAnswered config tables old new = ((turned : Turned) × (new.last ≡ Done turned) × (AreNumbered old tables → IsCurrent config tables old → HasTurned config tables old new turned)) ⊎ IsRefused old new

-- what its own turn makes of an outlet
pub record TurnedAlone (config : Configuration) (tables : AdjIns) (old new : View) : Type 0 where
  pub client : new.client ≡ old.client
  pub extended : new.extended ≡ old.extended
  pub rest : new ≡ record old { loc = new.loc; told = new.told; touched = new.touched; stale = new.stale; marked = new.marked; waits = new.waits; numbers = new.numbers; last = new.last }
  pub answer : IsAnswered config tables old new
  pub numbered : AreNumbered old tables → AreNumbered new tables
  pub exact : AreNumbered old tables → WaitsAreExact old → WaitsAreExact new

-- each outlet, in its old place, is turned as if it were alone
abbrev pub AllTurnedAlone : Configuration → AdjIns → List View → List View → Type 0
AllTurnedAlone config tables old new = (i : ℕ) (d : View) → i < length old → TurnedAlone config tables (slice_index_or old i d) (slice_index_or new i d)
