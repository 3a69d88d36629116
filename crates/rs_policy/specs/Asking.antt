-- What rules ask of a route.
use Rattle.std.specs.Prelude.{Bool, false, ◌&&◌, ◌||◌, List, is_some, option_map, unwrap_or}
use Rattle.std.specs.List.{list_any}
use Rattle.rs_attrs.specs.Getters.{communities_of, large_communities_of}
use Rattle.rs_attrs.specs.Meaning.{Attribute}
use Rattle.rs_attrs.specs.Patterns.{is_like, is_like_large}
use Rattle.rs_policy.specs.Patterns.{large_names_peer, large_pattern_for_any, names_peer, pattern_for_any}
use Rattle.rs_policy.specs.declared.rules.Rule.{Rule}

-- the prefix of a route counts
abbrev pub asks_prefix : Rule → Bool
asks_prefix rule = is_some rule.range || is_some rule.tests.prefix_in

-- of a route with these attributes it may count who the receiver is: a test names the receiver, and some community is as it asks of
-- some receiver
abbrev pub asks_receiver : List Attribute → Rule → Bool
asks_receiver m rule =
    unwrap_or (option_map (λ t. names_peer t && list_any (is_like (pattern_for_any t)) (communities_of m)) rule.tests.community) false
    || unwrap_or (option_map (λ t. large_names_peer t && list_any (is_like_large (large_pattern_for_any t)) (large_communities_of m)) rule.tests.large_community) false
