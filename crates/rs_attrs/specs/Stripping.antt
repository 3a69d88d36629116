-- What is left of the attributes of a route where communities are stripped (RFC 1997; RFC 8092).
use Rattle.std.specs.Prelude.{ℕ, ◌==◌, Bool, ◌||◌, not, List, [], ◌∷◌, filter, map, if◌then◌else◌}
use Rattle.std.specs.List.{flat_map, list_any}
use Rattle.std.specs.Int.{w32, to_be_bytes}
use Rattle.rs_attrs.specs.declared.patterns.CommunityPattern.{CommunityPattern}
use Rattle.rs_attrs.specs.declared.patterns.LargeCommunityPattern.{LargeCommunityPattern}
use Rattle.rs_attrs.specs.declared.patterns.LargeCommunity.{LargeCommunity}
use Rattle.rs_attrs.specs.declared.stripping.Strip.{Strip}
use Rattle.rs_attrs.specs.declared.stripping.OwnedStrip.{OwnedStrip}
use Rattle.rs_attrs.specs.Meaning.{Attribute}
use Rattle.rs_attrs.specs.Paths.{quads}
use Rattle.rs_attrs.specs.Patterns.{is_like, is_like_large, large_communities_in, parts_of, triples}
use Rattle.rs_attrs.specs.Writing.{with_value}
use Rattle.rs_attrs.specs.Types as types

-- what is taken out of COMMUNITIES, and of LARGE_COMMUNITY
pub record Taken : Type 0 where
  pub communities : List (List CommunityPattern)
  pub all_communities : Bool
  pub large : List (List LargeCommunityPattern)
  pub all_large : Bool

abbrev pub taken_by : Strip → Taken
taken_by strip = record {
  communities = map (λ patterns. patterns.now) strip.communities;
  all_communities = strip.all_communities;
  large = map (λ patterns. patterns.now) strip.large;
  all_large = strip.all_large;
}

abbrev pub taken_by_owner : OwnedStrip → Taken
taken_by_owner strip = record {
  communities = strip.communities.items ∷ strip.more_communities.items ∷ [];
  all_communities = strip.all_communities;
  large = strip.large.items ∷ strip.more_large.items ∷ [];
  all_large = strip.all_large;
}

-- all are, or the community is like a pattern of one of the lists
abbrev pub is_stripped : Taken → ℕ → Bool
is_stripped t c = t.all_communities || list_any (λ patterns. list_any (λ p. is_like p c) patterns) t.communities

abbrev pub is_stripped_large : Taken → LargeCommunity → Bool
is_stripped_large t c = t.all_large || list_any (λ patterns. list_any (λ p. is_like_large p c) patterns) t.large

-- those that stay, in their order
abbrev pub unstripped : Taken → List ℕ → List ℕ
unstripped t communities = filter (λ c. not (is_stripped t c)) communities

abbrev pub unstripped_large : Taken → List LargeCommunity → List LargeCommunity
unstripped_large t communities = filter (λ c. not (is_stripped_large t c)) communities

-- the attribute with these numbers of 32 bits as its value, and its flags; without any it goes
abbrev pub with_numbers : Attribute → List ℕ → List Attribute
with_numbers a [] = []
with_numbers a (n ∷ numbers) = with_value a (flat_map (to_be_bytes w32) (n ∷ numbers)) ∷ []

abbrev pub with_communities : Attribute → List ℕ → List Attribute
with_communities a communities = with_numbers a communities

abbrev pub with_large_communities : Attribute → List LargeCommunity → List Attribute
with_large_communities a communities = with_numbers a (flat_map parts_of communities)

-- the numbers that are left of those of COMMUNITIES, or of LARGE_COMMUNITY
abbrev pub numbers_left : Taken → ℕ → List ℕ → List ℕ
numbers_left t kind numbers =
    if kind == types.communities then unstripped t numbers
    else flat_map parts_of (unstripped_large t (triples numbers))

-- an attribute of another type stays as it is
abbrev pub left_of : Taken → Attribute → List Attribute
left_of t a =
    if a.kind == types.communities then with_communities a (unstripped t (quads a.value))
    else if a.kind == types.large_community then with_large_communities a (unstripped_large t (large_communities_in a.value))
    else a ∷ []

abbrev pub stripped_of : Taken → List Attribute → List Attribute
stripped_of t m = flat_map (left_of t) m
