-- Laws of the definition: octets have an effect and no second one, so that a list of UPDATEs means one table; and where NLRI
-- counts as withdrawn for its attributes, one of them is noted.
use Rattle.std.specs.Prelude.{◌≡◌, ℕ, List, ◌∷◌, Option, is_some}
use Rattle.std.specs.List.{AllByRecursion, AllZip}
use Rattle.rs_octets.specs.Prefixes.{Prefix}
use Rattle.rs_attrs.specs.declared.mode.Mode.{Mode}
use Rattle.rs_attrs.specs.declared.faults.Faults.{Faults}
use Rattle.rs_attrs.specs.Spellings.{AreOctets}
use Rattle.rs_attrs.specs.Meaning.{Attribute, Reads}
use Rattle.rs_attrs.specs.Effects.{Fields, Effect, Reset, Changes, Change, HasEffect, MeansTable, has_prefix, effect_of, table_since, table_of, faulted_in, treat_as_withdraw}

-- both withdraw the same prefixes and announce the same ones with the same attributes
pub record IsSameChange (x y : Change) : Type 0 where
  pub withdrawn : (p : Prefix) → has_prefix p x.withdrawn ≡ has_prefix p y.withdrawn
  pub announced : (p : Prefix) → has_prefix p x.announced ≡ has_prefix p y.announced
  pub attributes : x.attributes ≡ y.attributes

-- but for the order in which they list prefixes, they are the same
abbrev pub IsSameEffect : Effect → Effect → Type 0
IsSameEffect (Reset code sub) (Reset other subcode) = (code ≡ other) × (sub ≡ subcode)
IsSameEffect (Changes x) (Changes y) = IsSameChange x y
IsSameEffect (Reset code sub) (Changes y) = ⊥
IsSameEffect (Changes x) (Reset code sub) = ⊥

-- each body of octets has the effect that is computed of it
abbrev pub BodiesHaveEffects : Type 0
BodiesHaveEffects = (body : List ℕ) (mode : Mode) → AreOctets body → HasEffect body mode (effect_of body mode)

-- and none that is another
abbrev pub BodiesHaveOneEffect : Type 0
BodiesHaveOneEffect = (body : List ℕ) (mode : Mode) (x y : Effect) → HasEffect body mode x → HasEffect body mode y → IsSameEffect x y

-- bodies that change routes, each by what is computed of it, mean a table
abbrev pub BodiesMeanTables : Type 0
BodiesMeanTables =
    (bodies : List (List ℕ)) (mode : Mode) (changes : List Change) → AllByRecursion AreOctets bodies
    → AllZip (λ body change. effect_of body mode ≡ Changes change) bodies changes → MeansTable bodies mode (table_of changes)

-- and no other
abbrev pub BodiesMeanOneTable : Type 0
BodiesMeanOneTable =
    (bodies : List (List ℕ)) (mode : Mode) (t u : Prefix → Option (List Attribute)) → MeansTable bodies mode t → MeansTable bodies mode u → (p : Prefix) → t p ≡ u p

-- changes that are the same lie over a table in the same way; the newest stands first
abbrev pub SameChangesOverlayAlike : Type 0
SameChangesOverlayAlike = (x y : Change) (changes : List Change) (p : Prefix) → IsSameChange x y → table_since (x ∷ changes) p ≡ table_since (y ∷ changes) p

-- what is noted of an UPDATE names an attribute for which it is treated as withdraw exactly where it is
abbrev pub UpdatesNameTheirFaults : Type 0
UpdatesNameTheirFaults = (fields : Fields) (mode : Mode) (m : List Attribute) (faults : Faults) → AreOctets fields.attributes → Reads fields.attributes mode m faults
    → is_some (faulted_in fields mode).withdraw ≡ treat_as_withdraw fields m faults
