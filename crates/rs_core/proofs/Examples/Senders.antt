-- Worked rows on whose route is due, by computation: what is passed on as it was announced, and what is not.
use Rattle.std.proofs.Common.{arith, ap}
use Rattle.std.specs.Prelude.{◌≡◌, ℕ, Bool, true, false, List, [], ◌∷◌, ◌++◌, length, slice_index, refl, codes, Option, Some, None}
use Rattle.rs_octets.proofs.Rows.{hex}
use Rattle.rs_attrs.specs.Meaning.{Attribute, all_types}
use Rattle.rs_attrs.specs.declared.patterns.CommunityPattern.{CommunityPattern}
use Rattle.rs_attrs.specs.declared.patterns.LargeCommunityPattern.{LargeCommunityPattern}
use Rattle.rs_attrs.specs.Stripping.{Taken}
use Rattle.rs_attrs.proofs.Rows.{well, u1_attributes}
use Rattle.rs_policy.specs.Verdicts.{attributes_match, matches, outcome, verdict}
use Rattle.rs_core.specs.Told.Senders.{ArePassedOn, IsSendersRoute, communities_left, large_communities_left}
use Rattle.rs_core.proofs.Examples.DueRoutes.{announced, n24}

-- ---- COMMUNITIES without one of two, without both, and without all; and LARGE_COMMUNITY

abbrev both : Attribute
both = record { kind = 8; optional = true; transitive = true; partial = true; value = hex (codes "fbf00001fbf00002") }

abbrev both_large : Attribute
both_large = record { kind = 32; optional = true; transitive = true; partial = true; value = hex (codes "0000fbf000000001000000020000fbf00000000100000003") }

abbrev like : ℕ → Option ℕ → CommunityPattern
like high low = record { high = Some high; low = low }

abbrev taking : List CommunityPattern → List CommunityPattern → Bool → Taken
taking import export all = record { communities = import ∷ export ∷ []; all_communities = all; large = [] ∷ [] ∷ []; all_large = false }

abbrev taking_large : List LargeCommunityPattern → Bool → Taken
taking_large patterns all = record { communities = [] ∷ [] ∷ []; all_communities = false; large = patterns ∷ [] ∷ []; all_large = all }

one_left : communities_left (taking (like 64496 (Some 1) ∷ []) [] false) (Some both) ≡ Some (record both { value = hex (codes "fbf00002") })
one_left = refl

none_left : communities_left (taking (like 64496 (Some 1) ∷ []) (like 64496 (Some 2) ∷ []) false) (Some both) ≡ None
none_left = refl

none_of_any : communities_left (taking [] (like 64496 None ∷ []) false) (Some both) ≡ None
none_of_any = refl

none_of_all : communities_left (taking [] [] true) (Some both) ≡ None
none_of_all = refl

all_left : communities_left (taking [] (like 64496 (Some 3) ∷ []) false) (Some both) ≡ Some both
all_left = refl

one_large_left : large_communities_left (taking_large (record { global = Some 64496; first = Some 1; second = Some 2 } ∷ []) false) (Some both_large) ≡ Some (record both_large { value = hex (codes "0000fbf00000000100000003") })
one_large_left = refl

no_large_left : large_communities_left (taking_large (record { global = Some 64496; first = Some 1; second = None } ∷ []) false) (Some both_large) ≡ None
no_large_left = refl

no_large_of_all : large_communities_left (taking_large [] true) (Some both_large) ≡ None
no_large_of_all = refl

-- all of one type are none of the other
each_of_its_own : communities_left (taking_large [] true) (Some both) ≡ Some both
each_of_its_own = refl

-- ---- the route that a announced, at b

from_a : IsSendersRoute announced 1 n24 u1_attributes
unfolding all_types attributes_match matches outcome verdict
from_a = record {
  sender = 0;
  client = omega arith;
  another = λ e. cc;
  announced = u1_attributes;
  holds = refl;
  preference = 100;
  taken = taking [] [] false;
  rules = refl;
  attributes = record { next_hop = refl; as_path = refl; multi_exit_disc = refl; others = λ kind other another. refl; communities = refl; large_communities = refl };
}

-- ---- with the server's AS number in front, with the server's address, or with a MULTI_EXIT_DISC, it is another route

abbrev octets_in : Option Attribute → List ℕ
octets_in None = []
octets_in (Some a) = a.value

prepended : ArePassedOn (taking [] [] false) u1_attributes (well (0 ∷ []) 1 ∷ well (hex (codes "02020000fbf40000fbf0")) 2 ∷ well (hex (codes "c000020b")) 3 ∷ []) → ⊥
prepended h = let e : 10 ≡ 6 = ap (λ o. length (octets_in o)) h.as_path in omega (arith, e)

own_address : ArePassedOn (taking [] [] false) u1_attributes (well (0 ∷ []) 1 ∷ well (hex (codes "02010000fbf0")) 2 ∷ well (hex (codes "c0000201")) 3 ∷ []) → ⊥
own_address h = let e : 0x01 ≡ 0x0b = ap (λ o. slice_index (octets_in o) 3) h.next_hop in omega (arith, e)

no_metric : ArePassedOn (taking [] [] false) (u1_attributes ++ record { kind = 4; optional = true; transitive = false; partial = false; value = 0 ∷ 0 ∷ 0 ∷ 5 ∷ [] } ∷ []) u1_attributes → ⊥
no_metric h = let e : 0 ≡ 4 = ap (λ o. length (octets_in o)) h.multi_exit_disc in omega (arith, e)
