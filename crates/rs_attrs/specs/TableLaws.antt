-- Laws of the table that changes mean: a change more lies over what was there.
use Rattle.std.specs.Prelude.{◌≡◌, List, [], ◌∷◌, ◌++◌}
use Rattle.rs_octets.specs.Prefixes.{Prefix}
use Rattle.rs_attrs.specs.Effects.{Change, table_since, table_of, overlaid}

-- the newest stands first
abbrev pub NewestOverlays : Type 0
NewestOverlays = (change : Change) (changes : List Change) (p : Prefix) → table_since (change ∷ changes) p ≡ overlaid (table_since changes) change p

-- the newest stands last
abbrev pub LastOverlays : Type 0
LastOverlays = (changes : List Change) (change : Change) (p : Prefix) → table_of (changes ++ change ∷ []) p ≡ overlaid (table_of changes) change p
