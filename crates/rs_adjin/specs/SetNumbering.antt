-- Sets of attributes by their number.
use Rattle.std.specs.Prelude.{◌≡◌, ◌%◌, cond, ℕ, List, Option, Some, None, slice_get}
use Rattle.std.specs.Ordering.{nat_cmp, ordering_then}
use Rattle.std.specs.BTreeMap.{BTreeMap, get_by, is_at}
use Rattle.std.specs.Arc.{arc_value}
use Rattle.std.specs.declared.sync.Arc.{Arc}
use Rattle.std.specs.Global.{Global}
use Rattle.rs_attrs.specs.Meaning.{Attribute}
use Rattle.rs_attrs.specs.Comparing.{attributes_cmp, attributes_hash}
use Rattle.rs_adjin.specs.declared.sets.AttrsRow.{AttrsRow}
use Rattle.rs_adjin.specs.declared.set_numbers.SetNumbers.{SetNumbers}
use Rattle.rs_adjin.specs.declared.set_numbers.TheConstants.{TREES}

abbrev pub attrs_by : Option (Arc (List Attribute) Global) → Option (List Attribute)
attrs_by None = None
attrs_by (Some attrs) = Some (arc_value attrs)

abbrev pub attrs_in : Option AttrsRow → Option (List Attribute)
attrs_in None = None
attrs_in (Some row) = attrs_by row.attrs

-- the attributes that have this number
abbrev pub attrs_at : List AttrsRow → ℕ → Option (List Attribute)
attrs_at rows n = attrs_in (slice_get rows n)

-- attributes with their numbers: by their hash, and where others have it too by their order
abbrev pub Tree : Type 0
Tree = BTreeMap (ℕ × Arc (List Attribute) Global) ℕ

-- the number under which attributes stand in a tree
abbrev pub number_within : Option Tree → List Attribute → Option ℕ
number_within None m = None
number_within (Some tree) m = get_by (λ k. ordering_then (nat_cmp (attributes_hash m) k.0) (attributes_cmp m (arc_value k.1))) tree

-- the number of attributes: it stands in the tree of the rest of their hash
abbrev pub number_by : SetNumbers → List Attribute → Option ℕ
number_by numbers m = number_within (slice_get numbers.trees.items (attributes_hash m % TREES)) m

-- these attributes have this number, and all others what they had
abbrev pub Writes : (List Attribute → Option ℕ) → (List Attribute → Option ℕ) → List Attribute → Option ℕ → Type 0
Writes old new m w = (q : List Attribute) → new q ≡ cond (is_at (attributes_cmp m) q) w (old q)

-- each number leads to its attributes, and back
pub record IsInverse (number : List Attribute → Option ℕ) (rows : List AttrsRow) : Type 0 where
  pub there : (m : List Attribute) (n : ℕ) → number m ≡ Some n → attrs_at rows n ≡ Some m
  pub back : (m : List Attribute) (n : ℕ) → attrs_at rows n ≡ Some m → number m ≡ Some n
