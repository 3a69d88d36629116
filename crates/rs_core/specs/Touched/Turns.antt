-- What a turn makes of the outlets.
use Rattle.std.specs.Prelude.{◌≡◌, ◌⊎◌, ℕ, ◌+◌, List, [], ◌∷◌, None}
use Rattle.rs_adjin.specs.declared.adj_ins.AdjIns.{AdjIns}
use Rattle.rs_policy.specs.Configuration.{Configuration}
use Rattle.rs_outlet.specs.declared.answers.Last.{Last}
use Rattle.rs_outlet.specs.declared.answers.Last.TheVariants as lasts
use Rattle.rs_outlet.specs.declared.answers.Turned.{Turned}
use Rattle.rs_outlet.specs.Decided.Turns.{HasTurned, IsCurrent, IsRefused}
use Rattle.rs_outlet.specs.Views.{View, AreNumbered, WaitsAreExact, if_up}

-- what a turn that was not refused made of an outlet: where each prefix stands at its number and what is not stale is due, what
-- is touched was decided, and nothing else
pub record IsDone (config : Configuration) (ins : AdjIns) (old new : View) : Type 0 where
  pub turned : Turned
  pub last : new.last ≡ lasts.Done turned
  pub decided : AreNumbered old ins → IsCurrent config ins old → HasTurned config ins old new turned
  pub rest : new ≡ record old { loc = new.loc; told = new.told; touched = new.touched; stale = new.stale; marked = new.marked; waits = new.waits; numbers = new.numbers; last = new.last }
  pub numbered : AreNumbered old ins → AreNumbered new ins
  pub exact : AreNumbered old ins → WaitsAreExact old → WaitsAreExact new

-- what a turn made of it: a refused one is of an outlet that is up, and changes nothing but its answer
abbrev pub IsTurn : Configuration → AdjIns → View → View → Type 0
IsTurn config ins old new = IsDone config ins old new ⊎ IsRefused old new

-- all is to be decided for a client that is Established, and nothing else has changed but numbers
pub record IsMarked (ins : AdjIns) (old new : View) : Type 0 where
  pub is : new ≡ record old { touched = if_up old.speech None old.touched; stale = if_up old.speech None old.stale; numbers = new.numbers }
  pub numbered : AreNumbered old ins → AreNumbered new ins

abbrev pub one_refused : Last → ℕ
one_refused lasts.Refused = 1
one_refused lasts.Never = 0
one_refused (lasts.Done turned) = 0

-- at how many of them memory was refused at the last turn
abbrev pub refused_in : List View → ℕ
refused_in [] = 0
refused_in (v ∷ vs) = one_refused v.last + refused_in vs
