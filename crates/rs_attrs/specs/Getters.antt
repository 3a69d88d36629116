-- What the attributes of a route say.
use Rattle.std.specs.Prelude.{◌≡◌, ℕ, true, false, Some, ◌==◌, Bool, List, [], option_map, Option, unwrap_or, slice_index}
use Rattle.std.specs.List.{list_any}
use Rattle.std.specs.Int.{w32, from_be_bytes}
use Rattle.rs_attrs.specs.Meaning.{Attribute, get}
use Rattle.rs_attrs.specs.Paths.{Segment, quads, path_length, path_has, origin_as}
use Rattle.rs_attrs.specs.Patterns.{large_communities_in}
use Rattle.rs_attrs.specs.Writing.{path_in}
use Rattle.rs_attrs.specs.Table.{Row, row_of, is_kept, is_well_formed}
use Rattle.rs_attrs.specs.declared.mode.Mode.TheVariants.{Four}
use Rattle.rs_attrs.specs.declared.getters.AttributeRef.{AttributeRef}
use Rattle.rs_attrs.specs.declared.tags.Tags.{Tags}
use Rattle.rs_attrs.specs.declared.patterns.LargeCommunity.{LargeCommunity}
use Rattle.rs_attrs.specs.Types as types

abbrev pub value_of : ℕ → List Attribute → Option (List ℕ)
value_of kind m = option_map (λ a. a.value) (get kind m)

-- ORIGIN (RFC 4271, 5.1.1): 0 for IGP, 1 for EGP, 2 for INCOMPLETE
abbrev pub origin_of : List Attribute → Option ℕ
origin_of m = option_map (λ value. slice_index value 0) (value_of types.origin m)

-- the segments of AS_PATH (RFC 4271, 5.1.2), none where there is no AS_PATH
abbrev pub path_of : List Attribute → List Segment
path_of m = unwrap_or (option_map path_in (value_of types.as_path m)) []

-- NEXT_HOP, an address as a number (RFC 4271, 5.1.3)
abbrev pub next_hop_of : List Attribute → Option ℕ
next_hop_of m = option_map (from_be_bytes w32) (value_of types.next_hop m)

-- MULTI_EXIT_DISC (RFC 4271, 5.1.4)
abbrev pub med_of : List Attribute → Option ℕ
med_of m = option_map (from_be_bytes w32) (value_of types.multi_exit_disc m)

-- COMMUNITIES, each four octets (RFC 1997), none where there is no such attribute
abbrev pub communities_of : List Attribute → List ℕ
communities_of m = unwrap_or (option_map quads (value_of types.communities m)) []

-- LARGE_COMMUNITY (RFC 8092, 3), none where there is no such attribute
abbrev pub large_communities_of : List Attribute → List LargeCommunity
large_communities_of m = unwrap_or (option_map large_communities_in (value_of types.large_community m)) []

-- the same of those that were found
abbrev pub tagged : Tags → List ℕ
tagged t = quads t.communities.now

abbrev pub large_tagged : Tags → List LargeCommunity
large_tagged t = large_communities_in t.large.now

abbrev pub has_community : ℕ → List Attribute → Bool
has_community community m = list_any (λ c. c == community) (communities_of m)

-- a set counts 1 (RFC 4271, 9.1.2.2, a)
abbrev pub path_length_of : List Attribute → ℕ
path_length_of m = path_length (path_of m)

-- the AS number stands in a segment of AS_PATH, be it a set or a sequence
abbrev pub path_has_of : ℕ → List Attribute → Bool
path_has_of number m = path_has number (path_of m)

-- the AS that the route comes from: the last number of AS_PATH, where its last segment is a sequence
abbrev pub origin_as_of : List Attribute → Option ℕ
origin_as_of m = origin_as (path_of m)

-- an attribute that a getter hands out
abbrev pub attribute_at : AttributeRef → Attribute
attribute_at a = record { kind = a.kind; optional = a.optional; transitive = a.transitive; partial = a.partial; value = a.value.now }

-- the value is as the row of its type asks
pub record IsWellFormedAs (kind : ℕ) (value : List ℕ) : Type 0 where
  pub form : (r : Row) → row_of Four kind ≡ Some r → is_kept r.otherwise ≡ false → is_well_formed Four r.shape value ≡ true
