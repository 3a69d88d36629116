use Rattle.std.proofs.Common.{◌≡◌, ℕ, false, List, [], ◌∷◌, Some, None, refl, ap, subst, ◌∙◌}
use Rattle.std.specs.Prelude.{nat_lt, slice_get}
use Rattle.rs_attrs.specs.Heads.{Head}
use Rattle.rs_attrs.specs.Held.{attributes_in}
use Rattle.rs_attrs.specs.Parts.{begins_below}
use Rattle.rs_attrs.specs.Types as types
use Rattle.rs_attrs.specs.Writing.{IsLegal}
use Rattle.rs_attrs.proofs.writing.parts.Left.begins_below.Goals as goal

-- the first attribute is of the first head's type
first : (heads : List Head) (values : List ℕ) (h : Head) → Some h ≡ slice_get heads 0 → nat_lt h.kind types.as4_path ≡ begins_below (attributes_in heads values)
first [] values h e = cc
first (g ∷ heads) values h e = cc

none : (heads : List Head) (values : List ℕ) → None ≡ slice_get heads 0 → false ≡ begins_below (attributes_in heads values)
none [] values e = refl
none (g ∷ heads) values e = cc

pub returns-in-Some-clause-value : goal.returns-in-Some-clause-value
returns-in-Some-clause-value c = ap (λ kind. nat_lt kind types.as4_path) c.kind.ensures ∙ first c.self.inside.heads.now c.self.inside.values.now c.in-Some.head.now c.in-Some.ensures.value ∙ ap begins_below c.self.view_is

pub returns-in-Some-clause-legal : goal.returns-in-Some-clause-legal
returns-in-Some-clause-legal c = subst IsLegal c.self.view_is c.self.invariant.1

pub returns-in-None-clause-value : goal.returns-in-None-clause-value
returns-in-None-clause-value c = none c.self.inside.heads.now c.self.inside.values.now c.in-None.ensures.value ∙ ap begins_below c.self.view_is

pub returns-in-None-clause-legal : goal.returns-in-None-clause-legal
returns-in-None-clause-legal c = subst IsLegal c.self.view_is c.self.invariant.1
