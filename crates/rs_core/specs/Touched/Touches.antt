-- What touches, and asking for all again, make of an outlet.
use Rattle.std.specs.Prelude.{None, true, ◌≡◌, ◌↔◌, ℕ, List, [], ◌∷◌, IsSome}
use Rattle.std.specs.List.{Contains}
use Rattle.std.specs.FinMap as map
use Rattle.std.specs.FinSet as set
use Rattle.rs_octets.specs.Prefixes.{Prefix}
use Rattle.rs_adjin.specs.AdjIns.{held_of}
use Rattle.rs_adjin.specs.declared.adj_ins.AdjIns.{AdjIns}
use Rattle.rs_outlet.specs.Views.{View, IsStaleTouched, WaitsAreExact, is_touched, touched_at}

-- these prefixes are touched, one after the other
abbrev pub touched_with : List Prefix → View → View
touched_with [] v = v
touched_with (p ∷ ps) v = touched_with ps (touched_at p v)

-- these prefixes were touched and are stale, and nothing else has changed but what is stale, and numbers
pub record IsTouchedAt (ps : List Prefix) (old new : View) : Type 0 where
  pub is : new ≡ record (touched_with ps old) { stale = new.stale; numbers = new.numbers }
  pub added : IsSome old.speech → (p : Prefix) → Contains ps p → is_touched new.stale p ≡ true
  pub kept : (p : Prefix) → is_touched old.stale p ≡ true → is_touched new.stale p ≡ true
  pub stale_touched : IsStaleTouched old → IsStaleTouched new

-- just the prefixes where this holds were touched, and nothing else has changed but numbers
pub record IsTouchedWhere (Holds : Prefix → Type 0) (old new : View) : Type 0 where
  pub prefixes : List Prefix
  pub just : (p : Prefix) → Contains prefixes p ↔ Holds p
  pub touched : IsTouchedAt prefixes old new

-- prefixes were touched, each where the first holds and none but where the second does, and nothing else has changed but numbers
pub record IsTouchedBetween (Least Most : Prefix → Type 0) (old new : View) : Type 0 where
  pub prefixes : List Prefix
  pub all : (p : Prefix) → Least p → Contains prefixes p
  pub most : (p : Prefix) → Contains prefixes p → Most p
  pub touched : IsTouchedAt prefixes old new

-- these are the prefixes that a client holds
pub record AreHeld (ins : AdjIns) (c : ℕ) (ps : List Prefix) : Type 0 where
  pub all : (p : Prefix) → Contains ps p ↔ IsSome (held_of ins c p)

-- what a client holds was touched, and nothing else has changed but numbers
pub record IsTouchedWhereHeld (ins : AdjIns) (c : ℕ) (old new : View) : Type 0 where
  pub prefixes : List Prefix
  pub held : AreHeld ins c prefixes
  pub touched : IsTouchedAt prefixes old new

-- Of what is touched for a client, by its own session: where it has come up, all is to be decided; where it was up and still
-- is, what was.
pub record KeepsTouches (old new : View) : Type 0 where
  pub came_up : old.speech ≡ None → IsSome new.speech → new.touched ≡ None
  pub kept : IsSome old.speech → IsSome new.speech → new.touched ≡ old.touched

-- the client asked for all again: what was told stays, and just that is to be told again
pub record IsAskedAgain (old new : View) : Type 0 where
  pub rest : new ≡ record old { told = new.told; marked = new.marked; waits = new.waits }
  pub told : new.told ≡ old.told
  pub marked : (p : Prefix) → set.contains new.marked p ≡ map.contains_key old.told p
  pub exact : WaitsAreExact old → WaitsAreExact new
