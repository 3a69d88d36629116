-- What waits once a client asked for everything again.
use Rattle.std.specs.Prelude.{◌≡◌, ◌⊎◌, ℕ, Bool, true, false, Option, None, Some, IsSome, is_some, List, [], ◌∷◌, ◌++◌, ◌≤◌, slice_get, slice_set}
use Rattle.std.specs.FinMap as fin
use Rattle.std.specs.Arc.{arc_value}
use Rattle.rs_attrs.specs.Meaning.{Attribute}
use Rattle.rs_attrs.specs.Comparing.{attributes_hash}
use Rattle.rs_rows.specs.Cells.{within}
use Rattle.rs_rows.specs.Rows.{Row}
use Rattle.rs_outlet.specs.declared.waiting.Due.TheVariants as due
use Rattle.rs_outlet.specs.declared.waiting.Told.{Told}
use Rattle.rs_outlet.specs.declared.waiting.Told.TheVariants as told
use Rattle.rs_outlet.specs.declared.waiting.Wait.{Wait}
use Rattle.rs_outlet.specs.Views.{Table}
use Rattle.rs_outlet.specs.Inside.{AreBacked, loc_of, row_at}
use Rattle.rs_octets.specs.Prefixes.{Prefix}
use Rattle.rs_outlet.specs.Pending.Slots.{AreApart, open_at, is_withdrawal, prefixes_at, withdrawn_count}

-- whether anything was told at a slot
abbrev pub is_told : Told → Bool
is_told told.Nothing = false
is_told told.Same = true
is_told (told.Other attrs) = true
is_told (told.Within index block) = is_some (within index (arc_value block))

abbrev pub remarked : Wait → Wait
remarked w = record w { marked = is_told w.told }

-- a slot as it is then, where this is due and this waited: marked where something was told, which is as it was
abbrev pub WaitsAgain : Option (List Attribute) → Option Wait → Wait → Type 0
WaitsAgain due None z = IsSome due × (is_withdrawal z.due ≡ false) × (z.told ≡ told.Same) × (z.marked ≡ true)
WaitsAgain due (Some w) z = (z.due ≡ w.due) × (z.told ≡ w.told) × (z.marked ≡ is_told w.told)

-- what waited waits still
abbrev pub MayWaitAgain : Option (List Attribute) → Option Wait → Option Wait → Type 0
MayWaitAgain due was None = was ≡ None
MayWaitAgain due was (Some z) = WaitsAgain due was z

-- a slot among others that waits so, where this is due and these waited
pub record IsPutAgain (loc : Table) (ws : List Wait) (z : Wait) : Type 0 where
  pub opened : z.open ≡ true
  pub again : WaitsAgain (fin.get loc z.prefix) (open_at z.prefix ws) z

-- a slot for the row of a number, whose prefix stands at none of these slots
pub record IsRowAdded (base : List Wait) (number : ℕ) (row : Row) (old new : List Wait) : Type 0 where
  pub wait : Wait
  pub prefix : wait.prefix ≡ row.prefix
  pub opened : wait.open ≡ true
  pub due : wait.due ≡ due.Announced number (attributes_hash row.attributes)
  pub told : wait.told ≡ told.Same
  pub marked : wait.marked ≡ true
  pub alone : open_at row.prefix base ≡ None
  pub added : new ≡ old ++ wait ∷ []

abbrev pub MayAddRow : List Wait → ℕ → Row → List Wait → List Wait → Type 0
MayAddRow base number row old new = (new ≡ old) ⊎ IsRowAdded base number row old new

-- the slot at which what the row of a number has is told again
pub record IsOfRow (number : ℕ) (row : Row) (z : Wait) : Type 0 where
  pub prefix : z.prefix ≡ row.prefix
  pub opened : z.open ≡ true
  pub due : z.due ≡ due.Announced number (attributes_hash row.attributes)
  pub told : z.told ≡ told.Same
  pub marked : z.marked ≡ true

-- the slot at which what some row has is told again, in place of a shut one of its prefix
pub record IsAgain (rows : List (Option Row)) (was z : Wait) : Type 0 where
  pub number : ℕ
  pub row : Row
  pub at : row_at rows number ≡ Some row
  pub prefix : row.prefix ≡ was.prefix
  pub shut : was.open ≡ false
  pub is : IsOfRow number row z

-- a slot waits again, whose prefix waits nowhere
pub record IsReopened (rows : List (Option Row)) (n : ℕ) (old new : List Wait) : Type 0 where
  pub was : Wait
  pub wait : Wait
  pub at : slice_get old n ≡ Some was
  pub alone : open_at was.prefix old ≡ None
  pub again : IsAgain rows was wait
  pub reopened : new ≡ slice_set old n wait

abbrev pub MayBeReopened : List (Option Row) → ℕ → List Wait → List Wait → Type 0
MayBeReopened rows n old new = (new ≡ old) ⊎ IsReopened rows n old new

-- what waited stays as it was; what was told, and is due, may wait again
abbrev pub MayReopen : Option (List Attribute) → Option Wait → Option Wait → Type 0
MayReopen due (Some w) now = now ≡ Some w
MayReopen due None None = Unit {0}
MayReopen due None (Some z) = WaitsAgain due None z

-- slots that waited no more wait again, each where it stood, and no prefix at two of them
pub record AreReopened (rows : List (Option Row)) (old new : List Wait) : Type 0 where
  pub prefixes : prefixes_at new ≡ prefixes_at old
  pub apart : AreApart new
  pub again : (q : Prefix) → MayReopen (fin.get (loc_of rows) q) (open_at q old) (open_at q new)
  pub withdrawn : withdrawn_count new ≤ withdrawn_count old
  pub backed : AreBacked rows old → AreBacked rows new
