-- Communities (RFC 1997) and large communities (RFC 8092), and the patterns that they are like.
use Rattle.std.specs.Prelude.{ℕ, ◌/◌, ◌%◌, ◌==◌, Bool, true, ◌&&◌, List, [], ◌∷◌, Option, Some, None}
use Rattle.rs_attrs.specs.declared.patterns.CommunityPattern.{CommunityPattern}
use Rattle.rs_attrs.specs.declared.patterns.LargeCommunityPattern.{LargeCommunityPattern}
use Rattle.rs_attrs.specs.declared.patterns.LargeCommunity.{LargeCommunity}
use Rattle.rs_attrs.specs.Paths.{quads}

-- ---- large communities (RFC 8092, 3): the Global Administrator and the two parts of local data

abbrev pub parts_of : LargeCommunity → List ℕ
parts_of c = c.global ∷ c.first ∷ c.second ∷ []

-- each three numbers
abbrev pub triples : List ℕ → List LargeCommunity
triples (global ∷ first ∷ second ∷ numbers) = record { global = global; first = first; second = second } ∷ triples numbers
triples _ = []

-- each twelve octets
abbrev pub large_communities_in : List ℕ → List LargeCommunity
large_communities_in octets = triples (quads octets)

-- ---- patterns

-- a part that is not given may be any
abbrev pub part_is : Option ℕ → ℕ → Bool
part_is None n = true
part_is (Some part) n = n == part

-- the first 16 bits and the last
abbrev pub is_like : CommunityPattern → ℕ → Bool
is_like p c = part_is p.high (c / 65536) && part_is p.low (c % 65536)

abbrev pub is_like_large : LargeCommunityPattern → LargeCommunity → Bool
is_like_large p c = part_is p.global c.global && part_is p.first c.first && part_is p.second c.second
