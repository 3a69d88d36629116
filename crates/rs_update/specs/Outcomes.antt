-- How an outcome is read in the words of the definition of an UPDATE's effect.
use Rattle.std.specs.Prelude.{◌≡◌, ℕ, ◌&&◌, ◌||◌, not, true, false, List, [], Some, None, is_none, option_map, MatchOption, if◌then◌else◌}
use Rattle.std.specs.List.{IsDistinct}
use Rattle.std.specs.Arc.{arc_value}
use Rattle.std.specs.List.Sorted.{IsStrictlySortedBy}
use Rattle.rs_octets.specs.Prefixes.{Prefix, prefix_order}
use Rattle.rs_attrs.specs.Meaning.{Attribute}
use Rattle.rs_attrs.specs.declared.mode.Mode.{Mode}
use Rattle.rs_attrs.specs.Effects.{Fields, IsBody, Effect, Reset, Changes, Change, has_prefix, same_prefix, is_empty, HasMandatory, faulted_in}
use Rattle.rs_update.specs.Changes.{SameMembers}
use Rattle.rs_update.specs.declared.outcome.Routes.{Routes}
use Rattle.rs_update.specs.declared.outcome.Outcome.{Outcome}
use Rattle.rs_update.specs.declared.outcome.Outcome.TheVariants as outcome

abbrev pub change_seen : Routes → Change
change_seen routes = record { withdrawn = routes.withdrawn.items; announced = routes.announced.items; attributes = option_map arc_value routes.attrs }

abbrev pub effect_seen : Outcome → Effect
effect_seen (outcome.Reset code subcode) = Reset code subcode
effect_seen (outcome.Change withdrawn announced attrs faulted) = Changes (record { withdrawn = withdrawn.items; announced = announced.items; attributes = option_map arc_value attrs })

-- the lists of an outcome are in rising order
abbrev pub IsRising : Outcome → Type 0
IsRising (outcome.Reset code subcode) = Unit {0}
IsRising (outcome.Change withdrawn announced attrs faulted) = IsStrictlySortedBy prefix_order withdrawn.items × IsStrictlySortedBy prefix_order announced.items

-- neither list of an outcome has a prefix twice
abbrev pub AreDistinct : Outcome → Type 0
AreDistinct (outcome.Reset code subcode) = Unit {0}
AreDistinct (outcome.Change withdrawn announced attrs faulted) = IsDistinct same_prefix withdrawn.items × IsDistinct same_prefix announced.items

-- no prefix is in both lists of an outcome
abbrev pub AreApart : Outcome → Type 0
AreApart (outcome.Reset code subcode) = Unit {0}
AreApart (outcome.Change withdrawn announced attrs faulted) = (p : Prefix) → has_prefix p withdrawn.items ≡ true → has_prefix p announced.items ≡ false

-- the attributes of an outcome are there exactly where something is announced
abbrev pub HasItsAttributes : Outcome → Type 0
HasItsAttributes (outcome.Reset code subcode) = Unit {0}
HasItsAttributes (outcome.Change withdrawn announced attrs faulted) = is_none attrs ≡ is_empty announced.items

-- ORIGIN, AS_PATH and NEXT_HOP are among the attributes of an outcome (RFC 7606, 3, d)
abbrev pub HasItsMandatory : Outcome → Type 0
HasItsMandatory (outcome.Reset code subcode) = Unit {0}
HasItsMandatory (outcome.Change withdrawn announced attrs faulted) = MatchOption attrs (Unit {0}) (λ m. HasMandatory (arc_value m))

-- what is noted is what is wrong with the fields that make up the body (RFC 7606, 2 to 4 and 7)
abbrev pub NamesFaults : List ℕ → Mode → Outcome → Type 0
NamesFaults body mode (outcome.Reset code subcode) = Unit {0}
NamesFaults body mode (outcome.Change withdrawn announced attrs faulted) = (fields : Fields) → IsBody body fields → faulted ≡ faulted_in fields mode

-- both are withdrawn, and nothing is announced
pub record IsWithdrawn (withdrawn nlri : List Prefix) (change : Change) : Type 0 where
  pub rising : IsStrictlySortedBy prefix_order change.withdrawn
  pub members : (p : Prefix) → has_prefix p change.withdrawn ≡ (has_prefix p withdrawn || has_prefix p nlri)
  pub announced : change.announced ≡ []
  pub attributes : change.attributes ≡ None

-- the NLRI is announced with these attributes, and what else is named is withdrawn
pub record IsAnnounced (withdrawn nlri : List Prefix) (m : List Attribute) (change : Change) : Type 0 where
  pub rising : IsStrictlySortedBy prefix_order change.withdrawn
  pub members : (p : Prefix) → has_prefix p change.withdrawn ≡ (has_prefix p withdrawn && not (has_prefix p nlri))
  pub announced_rising : IsStrictlySortedBy prefix_order change.announced
  pub announced : SameMembers nlri change.announced
  pub attributes : change.attributes ≡ (if is_empty change.announced then None else Some m)
