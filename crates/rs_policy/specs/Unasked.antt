-- Rules that match no route which lacks what they ask for.
use Rattle.std.specs.Prelude.{◌≡◌, ℕ, ◌&&◌, false, List, Option, option_map, unwrap_or}
use Rattle.std.specs.List.{AllByRecursion, list_any}
use Rattle.rs_attrs.specs.Getters.{communities_of, large_communities_of}
use Rattle.rs_attrs.specs.Meaning.{Attribute}
use Rattle.rs_attrs.specs.Patterns.{is_like, is_like_large}
use Rattle.rs_attrs.specs.Tagged.{LacksAsked}
use Rattle.rs_attrs.specs.declared.asked.AskedTags.{AskedTags}
use Rattle.rs_policy.specs.Asking.{asks_receiver}
use Rattle.rs_policy.specs.Configuration.{NamedList, SharedRules, rules_in}
use Rattle.rs_policy.specs.Patterns.{large_names_peer, large_pattern_for_any, names_peer, pattern_for_any}
use Rattle.rs_policy.specs.Verdicts.{AnnouncedRoute, matches}
use Rattle.rs_policy.specs.declared.rules.CommunityTest.{CommunityTest}
use Rattle.rs_policy.specs.declared.rules.Item.{Item}
use Rattle.rs_policy.specs.declared.rules.LargeCommunityTest.{LargeCommunityTest}
use Rattle.rs_policy.specs.declared.rules.Rule.{Rule}

-- on the way to a client with this AS number a rule matches no route that lacks the communities which are asked for
abbrev pub IsPassedOver : AskedTags → ℕ → Rule → Type 0
IsPassedOver asked to_as rule = (lists : List NamedList) (r : AnnouncedRoute) → r.to_as ≡ to_as → LacksAsked asked r.attributes → matches lists rule r ≡ false

abbrev pub ArePassedOver : AskedTags → ℕ → List Rule → Type 0
ArePassedOver asked to_as rules = AllByRecursion (IsPassedOver asked to_as) rules

-- the same of all rules at all places of a list
abbrev pub AreAllPassedOver : AskedTags → ℕ → List SharedRules → List Item → Type 0
AreAllPassedOver asked to_as shared items = AllByRecursion (λ item. ArePassedOver asked to_as (rules_in shared item)) items

-- a community test matches no route that lacks what is asked for, if it names the receiver, whoever that is
abbrev pub IsNotAskedByShort : AskedTags → Option CommunityTest → Type 0
IsNotAskedByShort asked o = (m : List Attribute) → LacksAsked asked m → unwrap_or (option_map (λ t. names_peer t && list_any (is_like (pattern_for_any t)) (communities_of m)) o) false ≡ false

-- the same of a test of large communities
abbrev pub IsNotAskedByLarge : AskedTags → Option LargeCommunityTest → Type 0
IsNotAskedByLarge asked o = (m : List Attribute) → LacksAsked asked m → unwrap_or (option_map (λ t. large_names_peer t && list_any (is_like_large (large_pattern_for_any t)) (large_communities_of m)) o) false ≡ false

-- of a route that lacks what is asked for it doesn't count in a rule who the receiver is
abbrev pub IsNotAskedOf : AskedTags → Rule → Type 0
IsNotAskedOf asked rule = (m : List Attribute) → LacksAsked asked m → asks_receiver m rule ≡ false

abbrev pub AreNotAskedOf : AskedTags → List Rule → Type 0
AreNotAskedOf asked rules = AllByRecursion (IsNotAskedOf asked) rules

-- nor in any rule at any place of a list
abbrev pub AreAllNotAskedOf : AskedTags → List SharedRules → List Item → Type 0
AreAllNotAskedOf asked shared items = AllByRecursion (λ item. AreNotAskedOf asked (rules_in shared item)) items
