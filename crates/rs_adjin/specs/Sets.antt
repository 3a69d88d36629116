-- The sets of attributes that routes share, by number.
use Rattle.std.specs.Prelude.{◌≡◌, ◌≢◌, ◌<◌, ◌≤◌, ◌==◌, ◌+◌, ℕ, List, Option, Some, length, count_by, slice_index}
use Rattle.std.specs.List.{sum_by}
use Rattle.rs_attrs.specs.Meaning.{Attribute}
use Rattle.rs_adjin.specs.declared.routes.Route.{Route}
use Rattle.rs_adjin.specs.declared.numbers.Row.{Row}
use Rattle.rs_adjin.specs.declared.sets.Sets.{Sets}
use Rattle.rs_adjin.specs.SetNumbering.{attrs_at, number_by}

-- how many routes have set s, as it is counted
unfoldable pub count_of : Sets → ℕ → ℕ
count_of sets s = slice_index sets.uses.items s

-- one route more can have set s
pub record HasRoom (sets : Sets) (s : ℕ) : Type 0 where
  pub there : s < length sets.uses.items
  pub few : count_of sets s < 4294967295

-- how many of these routes have set s
abbrev pub uses_of : ℕ → List Route → ℕ
uses_of s routes = count_by (λ r. r.set == s) routes

-- how many of the routes in all rows
abbrev pub uses_in : ℕ → List Row → ℕ
uses_in s rows = sum_by (λ row. uses_of s row.routes) rows

-- of each set so many routes are counted as have it
abbrev pub AreShared : Sets → List Row → Type 0
AreShared sets rows = (s : ℕ) → count_of sets s ≡ uses_in s rows

-- of no set fewer routes are counted than these have
abbrev pub AreCovered : Sets → List Route → Type 0
AreCovered sets routes = (s : ℕ) → uses_of s routes ≤ count_of sets s

-- what is counted goes with these routes, as they are written
abbrev pub Recounts : Sets → Sets → List Route → List Route → Type 0
Recounts before after old new = (s : ℕ) → count_of after s + uses_of s old ≡ count_of before s + uses_of s new

-- the number of attributes
abbrev pub set_in : Sets → List Attribute → Option ℕ
set_in sets m = number_by sets.numbers m

-- the attributes of a number
abbrev pub attrs_of : Sets → ℕ → Option (List Attribute)
attrs_of sets n = attrs_at sets.rows.items n

-- of each set as many routes are counted as before
abbrev pub SameCounts : Sets → Sets → Type 0
SameCounts old new = (s : ℕ) → count_of new s ≡ count_of old s

-- attributes that have a number keep it
abbrev pub KeepsSets : Sets → Sets → Type 0
KeepsSets old new = (m : List Attribute) (n : ℕ) → set_in old m ≡ Some n → set_in new m ≡ Some n

-- all attributes have the number that they had, or none as before
abbrev pub SameSets : Sets → Sets → Type 0
SameSets old new = (m : List Attribute) → set_in new m ≡ set_in old m

-- all but these have
abbrev pub SameSetsBut : List Attribute → Sets → Sets → Type 0
SameSetsBut m old new = (q : List Attribute) → q ≢ m → set_in new q ≡ set_in old q

-- attributes whose number is another keep it, and none get one
pub record GivesUpSet (old new : Sets) (n : ℕ) : Type 0 where
  pub kept : (m : List Attribute) (k : ℕ) → k ≢ n → set_in old m ≡ Some k → set_in new m ≡ Some k
  pub none_new : (m : List Attribute) (k : ℕ) → set_in new m ≡ Some k → set_in old m ≡ Some k
