-- The chosen route, said of its rivals.
use Rattle.std.specs.Prelude.{◌≡◌, ◌≢◌, ◌⊎◌, ◌≤◌, ℕ, List, [], ◌∷◌, Some, slice_get}
use Rattle.std.specs.List.{AllPairs, Contains}
use Rattle.std.specs.List.Sorted.{IsPermutation}
use Rattle.rs_decision.specs.declared.rank.Rank.{Rank}
use Rattle.rs_decision.specs.Choice.{med_of, by_place, best_of}

-- no two have the same place
abbrev pub HasDistinctPlaces : List Rank → Type 0
HasDistinctPlaces ranks = AllPairs (λ a b. a.place ≢ b.place) ranks

-- the rank at i is what the filters leave
abbrev pub IsOnlyOneLeft : List Rank → ℕ → Type 0
IsOnlyOneLeft ranks i = (best : Rank) × (slice_get ranks i ≡ Some best) × (by_place ranks ≡ best ∷ [])

-- the steps before MULTI_EXIT_DISC do not tell them apart
pub record IsLevel (a b : Rank) : Type 0 where
  pub preference : a.preference ≡ b.preference
  pub path : a.path_len ≡ b.path_len
  pub origin : a.origin ≡ b.origin

-- no level rank of the same neighbouring AS has a lower MULTI_EXIT_DISC
abbrev pub HasLowestMed : List Rank → Rank → Type 0
HasLowestMed ranks r = (s : Rank) → Contains ranks s → IsLevel s r → s.neighbour ≡ r.neighbour → med_of r ≤ med_of s

-- none of the ranks takes precedence
pub record IsUnbeaten (ranks : List Rank) (best : Rank) : Type 0 where
  pub member : Contains ranks best
  pub preference : (s : Rank) → Contains ranks s → s.preference ≤ best.preference
  pub path : (s : Rank) → Contains ranks s → s.preference ≡ best.preference → best.path_len ≤ s.path_len
  pub origin : (s : Rank) → Contains ranks s → s.preference ≡ best.preference → s.path_len ≡ best.path_len → best.origin ≤ s.origin
  pub med : HasLowestMed ranks best
  pub identifier : (s : Rank) → Contains ranks s → IsLevel s best → HasLowestMed ranks s → best.identifier ≤ s.identifier
  pub address : (s : Rank) → Contains ranks s → IsLevel s best → HasLowestMed ranks s → s.identifier ≡ best.identifier → best.address ≤ s.address
  pub place : (s : Rank) → Contains ranks s → IsLevel s best → HasLowestMed ranks s → s.identifier ≡ best.identifier → s.address ≡ best.address → best.place ≤ s.place

-- the answer is a member that none of the filters removes
abbrev pub BestIsUnbeaten : Type 0
BestIsUnbeaten = (ranks : List Rank) (best : Rank) → best_of ranks ≡ Some best → IsUnbeaten ranks best

-- the answer depends on the set alone, not on the order of the list
abbrev pub BestIgnoresOrder : Type 0
BestIgnoresOrder = (ranks others : List Rank) → HasDistinctPlaces ranks → IsPermutation ranks others → best_of ranks ≡ best_of others

-- others are the ranks, of which x alone may be missing
pub record IsWithout (x : Rank) (ranks others : List Rank) : Type 0 where
  pub within : (s : Rank) → Contains others s → Contains ranks s
  pub all : (s : Rank) → Contains ranks s → (s ≡ x) ⊎ Contains others s

-- no level rank of the same neighbouring AS has a higher MULTI_EXIT_DISC than x
abbrev pub NoneLosesTo : Rank → List Rank → Type 0
NoneLosesTo x ranks = (s : Rank) → Contains ranks s → IsLevel x s → x.neighbour ≡ s.neighbour → med_of s ≤ med_of x

-- without a rank that isn't the best, and to which none loses by MULTI_EXIT_DISC, the best is the same
abbrev pub BestStaysWithout : Type 0
BestStaysWithout =
    (ranks others : List Rank) (x best : Rank) → HasDistinctPlaces others → IsWithout x ranks others → best_of ranks ≡ Some best → best.place ≢ x.place → NoneLosesTo x others
    → best_of others ≡ Some best
