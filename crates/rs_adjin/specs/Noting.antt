-- Routes given notes.
use Rattle.std.specs.Prelude.{◌≡◌, ◌<◌, ℕ, List, [], ◌∷◌, map, All, Option, Some, None, slice_get}
use Rattle.std.specs.Arc.{arc_value}
use Rattle.rs_octets.specs.Prefixes.{Prefix}
use Rattle.rs_attrs.specs.Meaning.{Attribute}
use Rattle.rs_adjin.specs.declared.routes.Route.{Route}
use Rattle.rs_adjin.specs.declared.numbers.Row.{Row}
use Rattle.rs_adjin.specs.declared.numbers.Numbered.{Numbered}
use Rattle.rs_adjin.specs.Numbering.{routes_in}
use Rattle.rs_adjin.specs.Numbers.{routes_at, SameNumbers}

-- the route with the note that f gives
abbrev pub with_note : (ℕ → List Attribute → ℕ) → Route → Route
with_note f r = record r { note = f r.client (arc_value r.attrs) }

-- the routes for a prefix, each with its note
abbrev pub with_notes : (ℕ → Prefix → List Attribute → ℕ) → Option Prefix → List Route → List Route
with_notes f None routes = routes
with_notes f (Some p) routes = map (with_note (λ c m. f c p m)) routes

-- the row's routes have their notes now, and its prefix is as it was
pub record RowNotes (f : ℕ → Prefix → List Attribute → ℕ) (old new : Row) : Type 0 where
  pub prefix : new.prefix ≡ old.prefix
  pub routes : new.routes ≡ with_notes f old.prefix old.routes

-- so have those of each row
abbrev pub RowsNote : (ℕ → Prefix → List Attribute → ℕ) → List Row → List Row → Type 0
RowsNote f [] [] = Unit {0}
RowsNote f [] (s ∷ new) = ⊥
RowsNote f (r ∷ old) [] = ⊥
RowsNote f (r ∷ old) (s ∷ new) = RowNotes f r s × RowsNote f old new

-- the routes in all rows are of clients below n
abbrev pub RowsAreOf : ℕ → List Row → Type 0
RowsAreOf n rows = (m : ℕ) → All (λ r. r.client < n) (routes_in (slice_get rows m))

-- each route has the note that f gives, and nothing else has changed
pub record NotesAll (f : ℕ → Prefix → List Attribute → ℕ) (old new : Numbered) : Type 0 where
  pub numbers : SameNumbers old new
  pub routes : (p : Prefix) → routes_at new p ≡ with_notes f (Some p) (routes_at old p)
