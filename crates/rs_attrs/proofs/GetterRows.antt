-- Worked rows on what attributes say, by computation.
use Rattle.std.specs.Prelude.{◌≡◌, ℕ, true, false, Option, Some, None, List, [], ◌∷◌, ◌++◌, refl, codes}
use Rattle.std.specs.List.{list_any}
use Rattle.std.specs.declared.cmp.Ordering.TheVariants.{Less}
use Rattle.rs_attrs.specs.declared.mode.Mode.TheVariants.{Four}
use Rattle.rs_attrs.specs.Meaning.{Attribute, read_of, all_types}
use Rattle.rs_attrs.specs.Writing.{spelt}
use Rattle.rs_attrs.specs.Comparing.{same_attributes, attributes_cmp}
use Rattle.rs_attrs.specs.Getters.{origin_of, next_hop_of, med_of, communities_of, large_communities_of, has_community, path_length_of, path_has_of, origin_as_of}
use Rattle.rs_attrs.specs.declared.patterns.CommunityPattern.{CommunityPattern}
use Rattle.rs_attrs.specs.declared.patterns.LargeCommunityPattern.{LargeCommunityPattern}
use Rattle.rs_attrs.specs.Patterns.{is_like, is_like_large}
use Rattle.rs_attrs.specs.Stripping.{stripped_of}
use Rattle.rs_octets.proofs.Rows.{hex}
use Rattle.rs_attrs.proofs.Rows.{u1, u1_attributes}

route_origin : origin_of u1_attributes ≡ Some 0
route_origin = refl

route_next_hop : next_hop_of u1_attributes ≡ Some 0xc000020b
route_next_hop = refl

route_med : med_of u1_attributes ≡ None
route_med = refl

route_length : path_length_of u1_attributes ≡ 1
route_length = refl

route_has : path_has_of 64496 u1_attributes ≡ true
route_has = refl

route_origin_as : origin_as_of u1_attributes ≡ Some 64496
route_origin_as = refl

-- a sequence of two and a set of three: the set counts 1, its members are in the path, and it gives no origin AS
abbrev mixed : List Attribute
mixed = (read_of (hex (codes "40021802020000fbf00000fbf101030000fbf20000fbf30000fbf4")) Four).attributes

set_counts_one : path_length_of mixed ≡ 3
unfolding all_types
set_counts_one = refl

set_has : path_has_of 64499 mixed ≡ true
unfolding all_types
set_has = refl

no_origin_as : origin_as_of mixed ≡ None
unfolding all_types
no_origin_as = refl

-- with communities whose partial bit is set, large communities, and an unrecognized attribute
abbrev tagged : List Attribute
tagged = (read_of (u1 ++ hex (codes "e0080cfbf00001fbf00002fbf00001 c020180000fbf000000001000000020000fbf00000000100000003 c06302abcd")) Four).attributes

community_there : has_community 0xfbf00001 tagged ≡ true
unfolding all_types
community_there = refl

-- at the third octet
community_astride : has_community 0x0001fbf0 tagged ≡ false
unfolding all_types
community_astride = refl

abbrev like : Option ℕ → Option ℕ → CommunityPattern
like high low = record { high = high; low = low }

abbrev like_large : Option ℕ → Option ℕ → Option ℕ → LargeCommunityPattern
like_large global first second = record { global = global; first = first; second = second }

-- 64496:*, and 64496:0
like_any : list_any (is_like (like (Some 64496) None)) (communities_of tagged) ≡ true
unfolding all_types
like_any = refl

like_zero : list_any (is_like (like (Some 64496) (Some 0))) (communities_of tagged) ≡ false
unfolding all_types
like_zero = refl

-- 64496:1:*, and 64496:2:*
like_large_any : list_any (is_like_large (like_large (Some 64496) (Some 1) None)) (large_communities_of tagged) ≡ true
unfolding all_types
like_large_any = refl

like_large_none : list_any (is_like_large (like_large (Some 64496) (Some 2) None)) (large_communities_of tagged) ≡ false
unfolding all_types
like_large_none = refl

-- 64496:1, and from the second list nothing
strips_one : spelt (stripped_of (record { communities = (like (Some 64496) (Some 1) ∷ []) ∷ [] ∷ []; all_communities = false; large = [] ∷ [] ∷ []; all_large = false }) tagged) Four
    ≡ u1 ++ hex (codes "e00804fbf00002 c020180000fbf000000001000000020000fbf00000000100000003 e06302abcd")
unfolding all_types
strips_one = refl

-- 64496:*, and 64496:1:2
strips_both_types : spelt (stripped_of (record { communities = [] ∷ (like (Some 64496) None ∷ []) ∷ []; all_communities = false; large = (like_large (Some 64496) (Some 1) (Some 2) ∷ []) ∷ [] ∷ []; all_large = false }) tagged) Four
    ≡ u1 ++ hex (codes "c0200c0000fbf00000000100000003 e06302abcd")
unfolding all_types
strips_both_types = refl

-- all communities are those of COMMUNITIES alone
strips_all : spelt (stripped_of (record { communities = [] ∷ [] ∷ []; all_communities = true; large = [] ∷ [] ∷ []; all_large = false }) tagged) Four ≡ u1 ++ hex (codes "c020180000fbf000000001000000020000fbf00000000100000003 e06302abcd")
unfolding all_types
strips_all = refl

strips_all_large : spelt (stripped_of (record { communities = [] ∷ [] ∷ []; all_communities = false; large = [] ∷ [] ∷ []; all_large = true }) tagged) Four ≡ u1 ++ hex (codes "e0080cfbf00001fbf00002fbf00001 e06302abcd")
unfolding all_types
strips_all_large = refl

-- the partial bit tells communities apart, and not what is unrecognized and transitive
partial_communities : same_attributes (read_of (hex (codes "c00804fbf00001")) Four).attributes (read_of (hex (codes "e00804fbf00001")) Four).attributes ≡ false
unfolding all_types
partial_communities = refl

partial_unrecognized : same_attributes (read_of (hex (codes "c06300")) Four).attributes (read_of (hex (codes "e06300")) Four).attributes ≡ true
unfolding all_types
partial_unrecognized = refl

ordered : attributes_cmp (read_of (u1 ++ hex (codes "8004040000000a")) Four).attributes (read_of (u1 ++ hex (codes "8004040000000b")) Four).attributes ≡ Less
unfolding all_types
ordered = refl
