-- The numbers of the types of path attributes that are known.
use Rattle.std.specs.Prelude.{ℕ}

-- RFC 4271, 5.1
abbrev pub origin : ℕ
origin = 1

abbrev pub as_path : ℕ
as_path = 2

abbrev pub next_hop : ℕ
next_hop = 3

abbrev pub multi_exit_disc : ℕ
multi_exit_disc = 4

abbrev pub local_pref : ℕ
local_pref = 5

abbrev pub atomic_aggregate : ℕ
atomic_aggregate = 6

abbrev pub aggregator : ℕ
aggregator = 7

-- RFC 1997
abbrev pub communities : ℕ
communities = 8

-- RFC 4456, 8
abbrev pub originator_id : ℕ
originator_id = 9

abbrev pub cluster_list : ℕ
cluster_list = 10

-- RFC 4760, 3 and 4
abbrev pub mp_reach_nlri : ℕ
mp_reach_nlri = 14

abbrev pub mp_unreach_nlri : ℕ
mp_unreach_nlri = 15

-- RFC 4360, 2
abbrev pub extended_communities : ℕ
extended_communities = 16

-- RFC 6793, 3
abbrev pub as4_path : ℕ
as4_path = 17

abbrev pub as4_aggregator : ℕ
as4_aggregator = 18

-- RFC 8092, 3
abbrev pub large_community : ℕ
large_community = 32
