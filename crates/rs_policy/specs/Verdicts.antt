-- Which routes a rule matches, and what the rules make of a route.
use Rattle.std.specs.List.{list_any}
use Rattle.std.specs.Prelude.{◌≡◌, ℕ, ◌<◌, ◌-◌, ◌/◌, ◌^◌, ◌==◌, Bool, true, false, not, ◌&&◌, ◌||◌, nat_le, nat_lt, List, [], ◌∷◌, length, find, Option, Some, None, option_map, unwrap_or, if◌then◌else◌}
use Rattle.rs_octets.specs.Prefixes.{Prefix}
use Rattle.rs_attrs.specs.Meaning.{Attribute}
use Rattle.rs_attrs.specs.Paths.{Segment}
use Rattle.rs_attrs.specs.Patterns.{is_like, is_like_large}
use Rattle.rs_attrs.specs.Stripping.{Taken}
use Rattle.rs_attrs.specs.declared.patterns.CommunityPattern.{CommunityPattern}
use Rattle.rs_attrs.specs.declared.patterns.LargeCommunityPattern.{LargeCommunityPattern}
use Rattle.rs_attrs.specs.Getters.{path_of, path_length_of, path_has_of, origin_as_of, communities_of, large_communities_of, next_hop_of}
use Rattle.rs_policy.specs.Patterns.{pattern_for, large_pattern_for}
use Rattle.rs_policy.specs.Configuration.{NamedList, Configuration, client_of, list_at, policy_of}
use Rattle.rs_policy.specs.declared.rules.Disposition.{Disposition}
use Rattle.rs_policy.specs.declared.rules.Disposition.TheVariants as D
use Rattle.rs_policy.specs.declared.rules.Range.{Range}
use Rattle.rs_policy.specs.declared.rules.Stripping.{Stripping}
use Rattle.rs_policy.specs.declared.rules.Stripping.TheVariants.{Named, All}
use Rattle.rs_policy.specs.declared.rules.CommunityTest.{CommunityTest}
use Rattle.rs_policy.specs.declared.rules.LargeCommunityTest.{LargeCommunityTest}
use Rattle.rs_policy.specs.declared.rules.Action.{Action}
use Rattle.rs_policy.specs.declared.rules.Action.TheVariants as A
use Rattle.rs_policy.specs.declared.rules.Rule.{Rule}
use Rattle.rs_policy.specs.declared.rules.Tests.{Tests}

-- a route as its sender announced it: the sender's place, address and AS number, the prefix, the attributes, and the AS number of
-- the client to which it goes
pub record AnnouncedRoute : Type 0 where
  pub from : ℕ
  pub peer : ℕ
  pub peer_as : ℕ
  pub prefix : Prefix
  pub attributes : List Attribute
  pub to_as : ℕ

-- the first bits of an address
abbrev pub front : ℕ → ℕ → ℕ
front len bits = bits / 2 ^ (32 - len)

-- a prefix lies within another: it is no shorter, and begins with the other's bits
abbrev pub is_within : Prefix → Prefix → Bool
is_within p outer = nat_le outer.len p.len && front outer.len p.bits == front outer.len outer.bits

abbrev pub in_range : Range → Prefix → Bool
in_range r p = is_within p r.prefix && (nat_le r.min p.len && nat_le p.len r.max)

-- some range of a list takes the prefix
abbrev pub has_prefix : NamedList → Prefix → Bool
has_prefix l p = unwrap_or (option_map (λ ranges. list_any (λ r. in_range r p) ranges) l.prefixes) false

abbrev pub in_as_range : ℕ × ℕ → ℕ → Bool
in_as_range r n = nat_le r.0 n && nat_le n r.1

-- some range of a list has the AS number
abbrev pub has_as : NamedList → ℕ → Bool
has_as l n = unwrap_or (option_map (λ ranges. list_any (λ r. in_as_range r n) ranges) l.ases) false

-- the route's NEXT_HOP is its sender's address
abbrev pub next_hop_is_peer : AnnouncedRoute → Bool
next_hop_is_peer r = unwrap_or (option_map (λ a. a == r.peer) (next_hop_of r.attributes)) false

abbrev pub origin_as_is : ℕ → AnnouncedRoute → Bool
origin_as_is n r = unwrap_or (option_map (λ o. o == n) (origin_as_of r.attributes)) false

abbrev pub origin_in : NamedList → AnnouncedRoute → Bool
origin_in l r = unwrap_or (option_map (λ o. has_as l o) (origin_as_of r.attributes)) false

-- some AS number of the path is in the list, in whatever segment it stands
abbrev pub path_in : NamedList → AnnouncedRoute → Bool
path_in l r = list_any (λ s. list_any (has_as l) s.numbers) (path_of r.attributes)

-- the leftmost AS number of a path (RFC 4271, 6.3), whose segments have one at least
abbrev pub first_of : List ℕ → Option ℕ
first_of [] = None
first_of (n ∷ ns) = Some n

abbrev pub first_as : List Segment → Option ℕ
first_as [] = None
first_as (s ∷ path) = first_of s.numbers

-- it is the AS number of the sender
abbrev pub first_as_is_peer : AnnouncedRoute → Bool
first_as_is_peer r = unwrap_or (option_map (λ n. n == r.peer_as) (first_as (path_of r.attributes))) false

-- some community is as the test asks
abbrev pub has_community : CommunityTest → AnnouncedRoute → Bool
has_community t r = list_any (is_like (pattern_for r.to_as t)) (communities_of r.attributes)

-- some large community is
abbrev pub has_large_community : LargeCommunityTest → AnnouncedRoute → Bool
has_large_community t r = list_any (is_like_large (large_pattern_for r.to_as t)) (large_communities_of r.attributes)

-- a test that isn't there holds
abbrev pub holds : {A : Type 0} → (A → Bool) → Option A → Bool
holds test None = true
holds test (Some a) = test a

-- the tests of the path but for its end
abbrev pub path_matches : List NamedList → Tests → AnnouncedRoute → Bool
path_matches lists tests r =
    holds (λ n. path_has_of n r.attributes) tests.path_has
    && (holds (λ n. path_in (list_at lists n) r) tests.path_in
    && (holds (λ n. nat_lt n (path_length_of r.attributes)) tests.path_longer
    && holds (λ b. if b then first_as_is_peer r else not (first_as_is_peer r)) tests.first_as_is_peer))

-- the tests that walk communities and paths
unfoldable pub attributes_match : List NamedList → Tests → AnnouncedRoute → Bool
attributes_match lists tests r =
    holds (λ t. has_community t r) tests.community
    && (holds (λ t. has_large_community t r) tests.large_community
    && (holds (λ n. origin_as_is n r) tests.origin_as
    && (holds (λ n. origin_in (list_at lists n) r) tests.origin_in
    && path_matches lists tests r)))

-- all tests of a rule hold, those that walk the attributes last
unfoldable pub matches : List NamedList → Rule → AnnouncedRoute → Bool
matches lists rule r =
    holds (λ range. in_range range r.prefix) rule.range
    && (holds (λ n. has_prefix (list_at lists n) r.prefix) rule.tests.prefix_in
    && (holds (λ c. c == r.from) rule.tests.from
    && (holds (λ b. if b then next_hop_is_peer r else not (next_hop_is_peer r)) rule.tests.next_hop_is_peer
    && attributes_match lists rule.tests r)))

-- how a list passes a route: the preference, if it gives one, and the communities that are taken away
pub record Passing : Type 0 where
  pub preference : Option ℕ
  pub communities : List CommunityPattern
  pub all_communities : Bool
  pub large : List LargeCommunityPattern
  pub all_large : Bool

abbrev pub named_by : {A : Type 0} → Stripping A → List A
named_by (Named patterns) = patterns
named_by All = []

abbrev pub takes_all : {A : Type 0} → Stripping A → Bool
takes_all (Named patterns) = false
takes_all All = true

abbrev pub passing : Action → Option Passing
passing A.Drop = None
passing (A.Pass preference strip strip_large) = Some (record {
  preference = preference;
  communities = named_by strip;
  all_communities = takes_all strip;
  large = named_by strip_large;
  all_large = takes_all strip_large;
})

abbrev pub passing_by_default : Disposition → Option Passing
passing_by_default D.Drop = None
passing_by_default D.Pass = Some (record { preference = None; communities = []; all_communities = false; large = []; all_large = false })

abbrev pub passing_by : Disposition → Option Rule → Option Passing
passing_by default None = passing_by_default default
passing_by default (Some rule) = passing rule.action

-- the first rule that matches decides, and the default where none does
unfoldable pub outcome : Disposition → List NamedList → List Rule → AnnouncedRoute → Option Passing
outcome default lists rules r = passing_by default (find (λ rule. matches lists rule r) rules)

-- what becomes of a route
pub data Judgement : Type 0 where
  dropped : Judgement
  passed : ℕ → Taken → Judgement

-- both lists pass it; the receiver's preference goes before the sender's, and 100 is where there is none
abbrev pub joined : Option Passing → Option Passing → Judgement
joined (Some import) (Some export) =
    passed (unwrap_or export.preference (unwrap_or import.preference 100)) (record {
      communities = import.communities ∷ export.communities ∷ [];
      all_communities = import.all_communities || export.all_communities;
      large = import.large ∷ export.large ∷ [];
      all_large = import.all_large || export.all_large;
    })
joined _ _ = dropped

abbrev pub announced_route : Configuration → ℕ → ℕ → Prefix → List Attribute → AnnouncedRoute
announced_route s from to p m = record {
  from = from;
  peer = (client_of s from).peer;
  peer_as = (client_of s from).client_as;
  prefix = p;
  attributes = m;
  to_as = (client_of s to).client_as;
}

-- by the sender's import list and the receiver's export list, both over the attributes as they were received (RFC 7947, 2.3)
unfoldable pub verdict : Configuration → ℕ → ℕ → Prefix → List Attribute → Judgement
verdict s from to p m =
    let r = announced_route s from to p m in
    joined (outcome s.top.default s.lists (policy_of s from).import r) (outcome s.top.default s.lists (policy_of s to).export r)

-- what a client's import list makes of a route is the same, whoever is sent it
abbrev pub AsksNoReceiver : Configuration → Type 0
AsksNoReceiver s =
    (from to other : ℕ) (p : Prefix) (m : List Attribute) → from < length s.clients
    → let rules = (policy_of s from).import in
    outcome s.top.default s.lists rules (announced_route s from to p m) ≡ outcome s.top.default s.lists rules (announced_route s from other p m)
