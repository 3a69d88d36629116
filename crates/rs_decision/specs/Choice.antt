-- The choice among the routes for one prefix: filters, one after the other, on the whole set (RFC 4271, 9.1.1 and 9.1.2.2).
use Rattle.std.specs.Prelude.{ℕ, ◌==◌, ◌&&◌, Bool, not, nat_lt, List, Option, slice_get, unwrap_or}
use Rattle.std.specs.List.{filter, list_any}
use Rattle.rs_decision.specs.declared.rank.Rank.{Rank}

-- a missing MULTI_EXIT_DISC counts as the lowest value (RFC 4271, 9.1.2.2 c)
abbrev pub med_of : Rank → ℕ
med_of r = unwrap_or r.med 0

-- what a filter keeps: the members than which no other is better in its respect
unfoldable pub unbeaten : (Rank → Rank → Bool) → List Rank → List Rank
unbeaten is_better ranks = filter (λ r. not (list_any (λ other. is_better other r) ranks)) ranks

-- the highest degree of preference (RFC 4271, 9.1.1)
abbrev pub by_preference : List Rank → List Rank
by_preference ranks = unbeaten (λ a b. nat_lt b.preference a.preference) ranks

-- then the shortest AS_PATH (9.1.2.2 a)
abbrev pub by_path : List Rank → List Rank
by_path ranks = unbeaten (λ a b. nat_lt a.path_len b.path_len) (by_preference ranks)

-- then the lowest ORIGIN (9.1.2.2 b)
abbrev pub by_origin : List Rank → List Rank
by_origin ranks = unbeaten (λ a b. nat_lt a.origin b.origin) (by_path ranks)

-- then those that no other one of the same neighbouring AS has a lower MULTI_EXIT_DISC than (9.1.2.2 c)
abbrev pub by_med : List Rank → List Rank
by_med ranks = unbeaten (λ a b. (a.neighbour == b.neighbour) && nat_lt (med_of a) (med_of b)) (by_origin ranks)

-- then the lowest BGP Identifier of the sender (9.1.2.2 f)
abbrev pub by_identifier : List Rank → List Rank
by_identifier ranks = unbeaten (λ a b. nat_lt a.identifier b.identifier) (by_med ranks)

-- then the lowest peer address (9.1.2.2 g)
abbrev pub by_address : List Rank → List Rank
by_address ranks = unbeaten (λ a b. nat_lt a.address b.address) (by_identifier ranks)

-- then the lowest place in the configuration, which the standard does not have
abbrev pub by_place : List Rank → List Rank
by_place ranks = unbeaten (λ a b. nat_lt a.place b.place) (by_address ranks)

-- what the filters leave of the set
abbrev pub best_of : List Rank → Option Rank
best_of ranks = slice_get (by_place ranks) 0
