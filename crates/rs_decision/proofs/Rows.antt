-- What the definitions choose, by computation: each filter decides once, where all before it leave the routes level.
use Rattle.std.specs.Prelude.{◌≡◌, ℕ, List, [], ◌∷◌, refl, Option, Some, None}
use Rattle.rs_decision.specs.declared.rank.Rank.{Rank}
use Rattle.rs_decision.specs.declared.losing.Step.TheVariants as S
use Rattle.rs_decision.specs.Choice.{unbeaten, best_of}
use Rattle.rs_decision.specs.Losing.{lost_by}

-- preference, AS_PATH, ORIGIN, MULTI_EXIT_DISC and neighbouring AS, BGP Identifier, address, place
abbrev rank : ℕ → ℕ → ℕ → Option ℕ → ℕ → ℕ → ℕ → ℕ → Rank
rank preference path origin med neighbour identifier address place = record {
  preference = preference;
  path_len = path;
  origin = origin;
  med = med;
  neighbour = neighbour;
  identifier = identifier;
  address = address;
  place = place;
}

no_route : best_of [] ≡ None
unfolding unbeaten
no_route = refl

-- the first of each two is worse by all filters after the one that decides

higher_preference : best_of (rank 200 9 2 (Some 9) 64496 9 9 1 ∷ rank 100 1 0 (Some 0) 64496 1 1 0 ∷ []) ≡ Some (rank 200 9 2 (Some 9) 64496 9 9 1)
unfolding unbeaten
higher_preference = refl

shorter_path : best_of (rank 100 2 2 (Some 9) 64496 9 9 1 ∷ rank 100 3 0 (Some 0) 64496 1 1 0 ∷ []) ≡ Some (rank 100 2 2 (Some 9) 64496 9 9 1)
unfolding unbeaten
shorter_path = refl

lower_origin : best_of (rank 100 2 0 (Some 9) 64496 9 9 1 ∷ rank 100 2 1 (Some 0) 64496 1 1 0 ∷ []) ≡ Some (rank 100 2 0 (Some 9) 64496 9 9 1)
unfolding unbeaten
lower_origin = refl

lower_med : best_of (rank 100 2 0 (Some 5) 64496 9 9 1 ∷ rank 100 2 0 (Some 6) 64496 1 1 0 ∷ []) ≡ Some (rank 100 2 0 (Some 5) 64496 9 9 1)
unfolding unbeaten
lower_med = refl

missing_med : best_of (rank 100 2 0 None 64496 9 9 1 ∷ rank 100 2 0 (Some 1) 64496 1 1 0 ∷ []) ≡ Some (rank 100 2 0 None 64496 9 9 1)
unfolding unbeaten
missing_med = refl

-- MULTI_EXIT_DISC is not compared between two neighbouring AS
med_of_two_neighbours : best_of (rank 100 2 0 (Some 9) 64496 1 9 1 ∷ rank 100 2 0 (Some 0) 64497 2 1 0 ∷ []) ≡ Some (rank 100 2 0 (Some 9) 64496 1 9 1)
unfolding unbeaten
med_of_two_neighbours = refl

lower_identifier : best_of (rank 100 2 0 None 64496 7 9 1 ∷ rank 100 2 0 None 64496 8 1 0 ∷ []) ≡ Some (rank 100 2 0 None 64496 7 9 1)
unfolding unbeaten
lower_identifier = refl

lower_address : best_of (rank 100 2 0 None 64496 7 3 1 ∷ rank 100 2 0 None 64496 7 4 0 ∷ []) ≡ Some (rank 100 2 0 None 64496 7 3 1)
unfolding unbeaten
lower_address = refl

lower_place : best_of (rank 100 2 0 None 64496 7 3 1 ∷ rank 100 2 0 None 64496 7 3 0 ∷ []) ≡ Some (rank 100 2 0 None 64496 7 3 0)
unfolding unbeaten
lower_place = refl

-- the first is removed by the second's MULTI_EXIT_DISC, though the third is the one that stays: two at a time would
-- answer the first or the third by the order of the list
set_at_once : best_of (rank 100 2 0 (Some 9) 64496 1 1 0 ∷ rank 100 2 0 (Some 5) 64496 3 3 1 ∷ rank 100 2 0 (Some 0) 64497 2 2 2 ∷ []) ≡ Some (rank 100 2 0 (Some 0) 64497 2 2 2)
unfolding unbeaten
set_at_once = refl

-- the first of these is out by MULTI_EXIT_DISC, and the second by the BGP Identifier

abbrev three : List Rank
three = rank 100 2 0 (Some 9) 64496 1 1 0 ∷ rank 100 2 0 (Some 5) 64496 3 3 1 ∷ rank 100 2 0 (Some 0) 64497 2 2 2 ∷ []

pub record AreLost : Type 0 where
  pub first : lost_by three (rank 100 2 0 (Some 9) 64496 1 1 0) ≡ Some S.Med
  pub second : lost_by three (rank 100 2 0 (Some 5) 64496 3 3 1) ≡ Some S.Identifier
  pub third : lost_by three (rank 100 2 0 (Some 0) 64497 2 2 2) ≡ None

are_lost : AreLost
unfolding lost_by unbeaten
are_lost = record { first = refl; second = refl; third = refl }
