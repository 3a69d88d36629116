-- What rules left of routes, as it is kept in a turn.
use Rattle.std.specs.Prelude.{◌≡◌, ℕ, List, Some, slice_get}
use Rattle.std.specs.Arc.{arc_value}
use Rattle.rs_attrs.specs.Stripping.{Taken, stripped_of}
use Rattle.rs_outlet.specs.declared.stripped.Rest.{Rest}

-- it is what is left of the whole where this is taken out
abbrev pub IsRest : Taken → Rest → Type 0
IsRest taken r = arc_value r.rest ≡ stripped_of taken (arc_value r.whole)

abbrev pub AreRests : Taken → List Rest → Type 0
AreRests taken rests = (i : ℕ) (r : Rest) → slice_get rests i ≡ Some r → IsRest taken r
