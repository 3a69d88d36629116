-- What is announced has ORIGIN, AS_PATH and NEXT_HOP.
use Rattle.std.proofs.Common.{inl, inr, ◌≡◌, ℕ, ◌&&◌, ◌||◌, Bool, true, false, cond, not, List, [], ◌∷◌, Option, Some, None, sym, ap, ◌∙◌, subst, refl, Global}
use Rattle.std.specs.Prelude.{option_map, MatchOption}
use Rattle.std.specs.declared.sync.Arc.{Arc}
use Rattle.std.specs.Arc.{arc_value}
use Rattle.rs_octets.specs.Prefixes.{Prefix}
use Rattle.rs_attrs.specs.declared.mode.Mode.{Mode}
use Rattle.rs_attrs.specs.declared.faults.Faults.{Faults}
use Rattle.rs_attrs.specs.Meaning.{Attribute}
use Rattle.rs_attrs.specs.Effects.{Fields, Changes, Change, HasEffect, is_empty, has_prefix, prefixes_in, announced_by, lacks_mandatory}
use Rattle.rs_attrs.proofs.EachOnce.{same_itself}

-- the attributes, where they are there, have the mandatory ones
abbrev pub Complete : Option (List Attribute) → Type 0
Complete attributes = MatchOption attributes (Unit {0}) (λ m. lacks_mandatory m ≡ false)

-- NLRI that is announced has its mandatory attributes
announced_has : (p : Prefix) (fields : Fields) (m : List Attribute) (faults : Faults) → has_prefix p (announced_by fields m faults) ≡ true → lacks_mandatory m ≡ false
announced_has p fields m faults e = by_nlri fields.nlri e
  where
    by_tests : (withdraw lacks : Bool) (ps : List Prefix) → has_prefix p (cond (withdraw || lacks) [] ps) ≡ true → lacks ≡ false
    by_tests true lacks ps e = absurd cc
    by_tests false true ps e = absurd cc
    by_tests false false ps e = refl

    nothing : (b : Bool) → has_prefix p (cond b [] []) ≡ true → lacks_mandatory m ≡ false
    nothing true e = absurd cc
    nothing false e = absurd cc

    by_nlri : (nlri : List ℕ) → has_prefix p (cond (faults.withdraw || not (is_empty nlri) && lacks_mandatory m) [] (prefixes_in nlri)) ≡ true → lacks_mandatory m ≡ false
    by_nlri [] e = nothing (faults.withdraw || false) e
    by_nlri (o ∷ nlri) e = by_tests faults.withdraw (lacks_mandatory m) (prefixes_in (o ∷ nlri)) e

complete : (fields : Fields) (m : List Attribute) (faults : Faults) (announced : List Prefix) → ((p : Prefix) → has_prefix p announced ≡ has_prefix p (announced_by fields m faults)) → Complete (cond (is_empty announced) None (Some m))
complete fields m faults [] same = tt
complete fields m faults (p ∷ announced) same =
    announced_has p fields m faults (sym (same p) ∙ ap (λ b. b || has_prefix p announced) (same_itself p))

pub has_mandatory : (body : List ℕ) (mode : Mode) (change : Change) → HasEffect body mode (Changes change) → Complete change.attributes
has_mandatory body mode change (inl reset) = let no = reset.1 in absurd cc
has_mandatory body mode change (inr is) =
    subst Complete (sym is.5.1.attributes) (complete is.0 is.2 is.3 change.announced is.5.1.announced)

-- the same of the attributes behind an Arc
pub seen_complete : (attrs : Option (Arc (List Attribute) Global)) → Complete (option_map arc_value attrs) → MatchOption attrs (Unit {0}) (λ m. lacks_mandatory (arc_value m) ≡ false)
seen_complete None is = tt
seen_complete (Some m) is = is
