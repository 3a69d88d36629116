-- How the texts of a configuration are read: numbers, addresses, prefixes and ranges, communities, names.
use Rattle.std.specs.Prelude.{ℕ, ◌+◌, ◌-◌, ◌*◌, ◌==◌, Bool, false, not, ◌&&◌, ◌||◌, List, [], ◌∷◌, length, nat_le, nat_lt, slice_index, take, drop, position, codes, bytes_eq, Option, Some, None, option_map, option_and_then, if◌then◌else◌}
use Rattle.std.specs.List.{list_all}
use Rattle.std.specs.Int.{w32, from_be_bytes}
use Rattle.rs_octets.specs.Prefixes.{Prefix, masked}
use Rattle.rs_attrs.specs.declared.patterns.CommunityPattern.{CommunityPattern}
use Rattle.rs_attrs.specs.declared.patterns.LargeCommunityPattern.{LargeCommunityPattern}
use Rattle.rs_policy.specs.Patterns.{pattern_for, large_pattern_for}
use Rattle.rs_policy.specs.declared.rules.Part.{Part}
use Rattle.rs_policy.specs.declared.rules.Part.TheVariants.{Number, Any, Peer}
use Rattle.rs_policy.specs.declared.rules.CommunityTest.{CommunityTest}
use Rattle.rs_policy.specs.declared.rules.LargeCommunityTest.{LargeCommunityTest}
use Rattle.rs_policy.specs.declared.rules.Range.{Range}

-- a decimal digit, in ASCII
abbrev pub is_digit : ℕ → Bool
is_digit c = nat_le 48 c && nat_le c 57

-- the number that some digits make after those of n
abbrev pub number_after : ℕ → List ℕ → ℕ
number_after n [] = n
number_after n (c ∷ cs) = number_after (10 * n + (c - 48)) cs

-- digits, at least one, without leading zeros
abbrev pub is_decimal : List ℕ → Bool
is_decimal text = (nat_lt 0 (length text) && list_all is_digit text) && (nat_le (length text) 1 || not (slice_index text 0 == 48))

-- the decimal number that a text is, where it is at most this one
unfoldable pub number_to : ℕ → List ℕ → Option ℕ
number_to high text = if is_decimal text && nat_le (number_after 0 text) high then Some (number_after 0 text) else None

-- the octets before the first such one, and those after it
unfoldable pub parted : ℕ → List ℕ → Option (List ℕ × List ℕ)
parted mark text = option_map (λ i. (take i text, drop (i + 1) text)) (position (λ c. c == mark) text)

-- two readings with a mark between
abbrev pub both : {A B : Type 0} → (List ℕ → Option A) → ℕ → (List ℕ → Option B) → List ℕ → Option (A × B)
both left mark right text = option_and_then (λ p. option_and_then (λ a. option_map (λ b. (a, b)) (right p.1)) (left p.0)) (parted mark text)

abbrev pub point : ℕ
point = 46

abbrev pub slash : ℕ
slash = 47

abbrev pub colon : ℕ
colon = 58

abbrev pub octet : List ℕ → Option ℕ
octet = number_to 255

-- four numbers with points between, as 32 bits
unfoldable pub address_of : List ℕ → Option ℕ
address_of text = option_map (λ o. from_be_bytes w32 (o.0 ∷ o.1.0 ∷ o.1.1.0 ∷ o.1.1.1 ∷ [])) (both octet point (both octet point (both octet point octet)) text)

abbrev pub no_zero : ℕ → Option ℕ
no_zero n = if n == 0 then None else Some n

-- an address and a port
unfoldable pub endpoint_of : List ℕ → Option (ℕ × ℕ)
endpoint_of = both address_of colon (λ port. option_and_then no_zero (number_to 65535 port))

-- an address and a length; the bits behind the length are set to 0
unfoldable pub prefix_of : List ℕ → Option Prefix
prefix_of text = option_map (λ p. record { bits = masked p.0 p.1; len = p.1 }) (both address_of slash (number_to 32) text)

-- what one reading makes of a text, or else another
abbrev pub or_else : {A : Type 0} → Option A → Option A → Option A
or_else None other = other
or_else (Some a) other = Some a

-- ranges

abbrev pub dash : ℕ
dash = 45

abbrev pub caret : ℕ
caret = 94

-- the lengths that a range operator takes, behind a prefix of this length (RFC 2622, 2): `-` all that are longer, `+` these and
-- its own, `n` one, `n-m` those between
unfoldable pub lengths_of : ℕ → List ℕ → Option (ℕ × ℕ)
lengths_of len operator =
    if bytes_eq operator (codes "-") then Some (len + 1, 32)
    else (if bytes_eq operator (codes "+") then Some (len, 32)
    else or_else (option_map (λ n. (n, n)) (number_to 32 operator)) (both (number_to 32) dash (number_to 32) operator))

-- lengths from the prefix's own to 32, the least first
abbrev pub ranged : Prefix → ℕ × ℕ → Option Range
ranged p lengths =
    if nat_le p.len lengths.0 && (nat_le lengths.0 lengths.1 && nat_le lengths.1 32)
    then Some (record { prefix = p; min = lengths.0; max = lengths.1 }) else None

-- a prefix alone, or one with an operator behind it
abbrev pub range_from : List ℕ → Option (List ℕ × List ℕ) → Option Range
range_from text None = option_map (λ p. record { prefix = p; min = p.len; max = p.len }) (prefix_of text)
range_from text (Some parts) = option_and_then (λ p. option_and_then (ranged p) (lengths_of p.len parts.1)) (prefix_of parts.0)

unfoldable pub prefix_range_of : List ℕ → Option Range
prefix_range_of text = range_from text (parted caret text)

-- the least and the greatest of some AS numbers
unfoldable pub as_range_of : List ℕ → Option (ℕ × ℕ)
as_range_of text = option_and_then (λ r. if nat_le r.0 r.1 then Some r else None) (both (number_to 4294967295) dash (number_to 4294967295) text)

-- communities

-- a part of a community: a number, or `peer` where that may be one
abbrev pub part_of : Bool → ℕ → List ℕ → Option Part
part_of peer high text = if peer && bytes_eq text (codes "peer") then Some Peer else option_map Number (number_to high text)

-- its last part may be any
abbrev pub last_part_of : Bool → ℕ → List ℕ → Option Part
last_part_of peer high text = if bytes_eq text (codes "*") then Some Any else part_of peer high text

-- two parts of 16 bits (RFC 1997)
unfoldable pub community_of : Bool → List ℕ → Option CommunityTest
community_of peer text = option_map (λ p. record { high = p.0; low = p.1 }) (both (part_of peer 65535) colon (last_part_of peer 65535) text)

-- the local data of a large community: two parts of which both, or the last, may be any
abbrev pub local_data_of : Bool → List ℕ → Option (Part × Part)
local_data_of peer text =
    if bytes_eq text (codes "*:*") then Some (Any, Any)
    else both (part_of peer 4294967295) colon (last_part_of peer 4294967295) text

-- three parts of 32 bits (RFC 8092, 3)
unfoldable pub large_community_of : Bool → List ℕ → Option LargeCommunityTest
large_community_of peer text = option_map (λ p. record { global = p.0; first = p.1.0; second = p.1.1 }) (both (part_of peer 4294967295) colon (local_data_of peer) text)

-- the same without `peer`, whose communities are the same whoever is sent them

unfoldable pub pattern_of : List ℕ → Option CommunityPattern
pattern_of text = option_map (pattern_for 0) (community_of false text)

unfoldable pub large_pattern_of : List ℕ → Option LargeCommunityPattern
large_pattern_of text = option_map (large_pattern_for 0) (large_community_of false text)

-- ASCII letters, digits and hyphens
abbrev pub is_name_octet : ℕ → Bool
is_name_octet c = ((nat_le 97 c && nat_le c 122) || (nat_le 65 c && nat_le c 90)) || (is_digit c || c == 45)

-- a name: 1 to 32 of these
abbrev pub is_name : List ℕ → Bool
is_name text = (nat_lt 0 (length text) && nat_le (length text) 32) && list_all is_name_octet text
