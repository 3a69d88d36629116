-- Prefixes with their numbers, in trees by their first bits.
use Rattle.std.specs.Prelude.{◌≡◌, ◌/◌, ◌^◌, ℕ, List, Option, Some, None, slice_get, All}
use Rattle.std.specs.List.{flat_map}
use Rattle.std.specs.Map.{keys_of}
use Rattle.std.specs.BTreeMap.{BTreeMap, IsOrdered, get}
use Rattle.rs_octets.specs.Prefixes.{Prefix, prefix_order}

abbrev pub Tree : Type 0
Tree = BTreeMap Prefix ℕ

-- the place of the tree of a prefix: its first 12 bits
abbrev pub place_for : Prefix → ℕ
place_for p = p.bits / 2 ^ 20

-- the number of a prefix in its tree
abbrev pub number_within : Option Tree → Prefix → Option ℕ
number_within None p = None
number_within (Some tree) p = get prefix_order tree p

abbrev pub number_among : List Tree → Prefix → Option ℕ
number_among trees p = number_within (slice_get trees (place_for p)) p

-- the prefixes of a tree rise, and this is the place of each
pub record IsTreeAt (n : ℕ) (tree : Tree) : Type 0 where
  pub rising : IsOrdered prefix_order tree
  pub placed : All (λ p. place_for p ≡ n) (keys_of tree.entries)

-- each tree is one for its place
abbrev pub AreInPlace : List Tree → Type 0
AreInPlace trees = (n : ℕ) (tree : Tree) → slice_get trees n ≡ Some tree → IsTreeAt n tree

-- the prefixes of all these trees with their numbers
abbrev pub entries_of : List Tree → List (Prefix × ℕ)
entries_of trees = flat_map (λ tree. tree.entries) trees
