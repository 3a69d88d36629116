-- What is to be written of attributes, one part after the other, by rising type. For a two-octet peer these are those
-- below AS4_PATH, with AS numbers in two octets, then AS4_PATH and AS4_AGGREGATOR where they are needed, and those above.
use Rattle.std.specs.Prelude.{◌≡◌, ℕ, ◌+◌, ◌++◌, Bool, true, false, map, filter, drop, List, [], ◌∷◌, nat_lt, length, if◌then◌else◌}
use Rattle.std.specs.List.{flat_map}
use Rattle.std.specs.Int.{w16, to_be_bytes}
use Rattle.rs_attrs.specs.declared.mode.Mode.{Mode}
use Rattle.rs_attrs.specs.declared.mode.Mode.TheVariants.{Two, Four}
use Rattle.rs_attrs.specs.declared.writing.parts.Form.{Form}
use Rattle.rs_attrs.specs.declared.writing.parts.Form.TheVariants.{Whole, NarrowPath, NarrowAggregator}
use Rattle.rs_attrs.specs.Meaning.{Attribute}
use Rattle.rs_attrs.specs.Types as types
use Rattle.rs_attrs.specs.Paths.{two_octets, four_octets, path_octets}
use Rattle.rs_attrs.specs.Table.{is_path}
use Rattle.rs_attrs.specs.Writing.{narrowed, as4_of, narrowed_segment, path_in, as_trans_or, aggregator_in}

-- the values of AS_PATH and AGGREGATOR with AS numbers in two octets
abbrev pub narrow_path : List ℕ → List ℕ
narrow_path value = path_octets two_octets (map narrowed_segment (path_in value))

abbrev pub narrow_aggregator : List ℕ → List ℕ
narrow_aggregator value = to_be_bytes w16 (as_trans_or (aggregator_in value)) ++ drop 4 value

-- the octets that a value is written in
abbrev pub value_by : Form → List ℕ → List ℕ
value_by Whole value = value
value_by NarrowPath value = narrow_path value
value_by NarrowAggregator value = narrow_aggregator value

-- the value can be written so
abbrev pub IsFormed : Form → List ℕ → Type 0
IsFormed Whole value = Unit {0}
IsFormed NarrowPath value = is_path four_octets value ≡ true
IsFormed NarrowAggregator value = length value ≡ 8

-- the octets of an attribute whose value has this many
abbrev pub octets_of_length : ℕ → ℕ
octets_of_length n = (if nat_lt 255 n then 4 else 3) + n

-- what is left to be written, where these attributes are left, and these to be looked at for AS4_PATH and AS4_AGGREGATOR
abbrev pub parts_left : Mode → List Attribute → List Attribute → List Attribute
parts_left Four left as4 = left
parts_left Two left as4 = map narrowed (filter (λ a. nat_lt a.kind types.as4_path) left) ++ flat_map as4_of as4 ++ filter (λ a. nat_lt types.as4_aggregator a.kind) left

-- the first attribute is of a type below AS4_PATH
abbrev pub begins_below : List Attribute → Bool
begins_below [] = false
begins_below (a ∷ m) = nat_lt a.kind types.as4_path
